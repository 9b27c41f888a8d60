-- The goal of a search, and what need not be tried by what is known.
use Rattle.std.specs.Prelude.{◌≡◌, ℕ, ◌<◌, ◌≤◌, Bool, true, false, cond, Some, None, Option, ◌==◌}
use Rattle.network.specs.Tariffs.{absent}
use Rattle.cost.specs.Laws.{Ops}
use Rattle.search.specs.declared.arrival.Arrival.{Arrival}
use Rattle.search.specs.declared.found.Found.{Found}
use Rattle.search.specs.declared.label.Known.{Known}
use Rattle.search.specs.declared.goal.Best.{Best}
use Rattle.search.specs.declared.goal.Goal.{Goal}
use Rattle.search.specs.Labels.{arrival, point_of}

-- a label is known at no more than v
abbrev pub is_at_most : {V : Type 0} → Ops V → Option (Known V) → V → Bool
is_at_most o None v = false
is_at_most o (Some k) v = o.at_most k.cost v

-- the goal is known to be reached at no more than v
abbrev pub is_bound : {V : Type 0} → Ops V → Option (Best V) → V → Bool
is_bound o None v = false
is_bound o (Some b) v = o.at_most b.cost v

-- a goal after an arrival became known at v
abbrev pub aimed : {V : Type 0} → Goal V → Arrival → V → Goal V
aimed h x v = record { node = h.node; best = cond (x.node == h.node) (Some (record { cost = v; channel = x.channel })) h.best }

-- what is found where the best arrival at t is taken
abbrev pub found_at : {V : Type 0} → ℕ → Option (Best V) → Option (Found V)
found_at t None = None
found_at t (Some b) = Some (record { cost = b.cost; end = point_of (arrival t b.channel) })

-- the goal is reached at no more than what comes of v at this tariff or any larger
abbrev pub Past : {V : Type 0} → Ops V → Option (Best V) → (V → ℕ → V) → V → ℕ → Type 0
Past o best step v w = (x : ℕ) → w ≤ x → x < absent → is_bound o best (step v x) ≡ true
