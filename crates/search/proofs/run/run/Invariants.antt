use Rattle.std.proofs.Common.{◌≡◌, ℕ}
use Rattle.semilightpath.specs.Scenes.{scene}
use Rattle.search.specs.Works.{labels_of, KeepsRest}
use Rattle.search.specs.Invariants.{Searching, Bounds, NotYet}
use Rattle.search.proofs.Left.{left}
use Rattle.search.proofs.run.run.Given as goal

abbrev pub invariant-loop-cost : goal.invariant-loop-cost
invariant-loop-cost g l =
    ((s : ℕ) → Searching g.K.Kind.ops (scene (g.F.Fares.over l.fares) (g.F.Fares.fare l.fares)) s l.initial.goal.node (labels_of l.initial.work) → Bounds g.K.Kind.ops (labels_of l.initial.work) l.initial.goal → NotYet l.initial.goal.node (labels_of l.initial.work)
    → Searching g.K.Kind.ops (scene (g.F.Fares.over l.fares) (g.F.Fares.fare l.fares)) s l.initial.goal.node (labels_of l.work) × Bounds g.K.Kind.ops (labels_of l.work) l.goal × NotYet l.initial.goal.node (labels_of l.work))
    × (l.goal.node ≡ l.initial.goal.node)
    × KeepsRest l.initial.work l.work

abbrev pub decreases-loop-cost : goal.decreases-loop-cost
decreases-loop-cost g l = left (g.F.Fares.over l.fares).counts (labels_of l.work)
