-- The path that labels lead along has no more steps than the network has arrivals.
use Rattle.std.proofs.Common.{ℕ, zero, suc, ◌≤◌, [], ◌∷◌, List, length, length-append, Some, None, Option, arith}
use Rattle.network.specs.Tariffs.{arrival_entries}
use Rattle.network.specs.declared.counts.Counts.{Counts}
use Rattle.network.specs.declared.step.Step.{Step}
use Rattle.semilightpath.specs.declared.point.Point.{Point}
use Rattle.search.specs.declared.label.Known.{Known}
use Rattle.search.specs.Labels.{Labels, labels_in, back_from, ending, trail, path_to}

ending_short : (m : ℕ) (r : Option (Step × Point)) (before : Point → List Step) → ((a : Point) → length (before a) ≤ m) → length (ending r before) ≤ suc m
ending_short m None before h = omega arith
ending_short m (Some r) before h = omega (arith, h r.1, length-append (before r.1) (r.0 ∷ []))

trail_short : {V : Type 0} (ls : Labels V) (m : ℕ) (a : Point) → length (trail ls m a) ≤ m
trail_short ls zero a = omega arith
trail_short ls (suc m) a = ending_short m (back_from ls a.node a.entered) (trail ls m) (trail_short ls m)

pub path_short : {V : Type 0} (n : Counts) (table : List (Option (Known V))) (a : Point) → length (path_to n table a) ≤ arrival_entries n
path_short n table a = trail_short (labels_in n table) (arrival_entries n) a
