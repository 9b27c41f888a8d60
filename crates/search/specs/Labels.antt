-- The labels of a search.
use Rattle.std.specs.Prelude.{ℕ, zero, suc, ◌<◌, Bool, true, false, cond, ◌&&◌, ◌||◌, List, [], ◌∷◌, ◌++◌, Some, None, Option, nat_lt, nat_le, length, drop, slice_index_or}
use Rattle.network.specs.Tariffs.{arrival_entries, arrival_entry}
use Rattle.network.specs.declared.counts.Counts.{Counts}
use Rattle.network.specs.Net.{Net}
use Rattle.network.specs.declared.step.Step.{Step}
use Rattle.cost.specs.Laws.{Ops}
use Rattle.semilightpath.specs.declared.point.Point.{Point}
use Rattle.semilightpath.specs.Paths.{head_of}
use Rattle.search.specs.declared.arrival.Arrival.{Arrival}
use Rattle.search.specs.declared.label.Known.{Known}

-- what is known of each arrival
abbrev pub Labels : Type 0 → Type 0
Labels V = Arrival → Option (Known V)

abbrev pub arrival : ℕ → ℕ → Arrival
arrival u c = record { node = u; channel = c }

-- an arrival at a node of the network on a channel of it
abbrev pub IsInside : Counts → Arrival → Type 0
IsInside n x = (x.node < n.nodes) × (x.channel < n.channels)

-- the labels that stand in a table
abbrev pub labels_in : {V : Type 0} → Counts → List (Option (Known V)) → Labels V
labels_in n table x =
    cond (nat_lt x.node n.nodes && nat_lt x.channel n.channels) (slice_index_or table (arrival_entry n x.node x.channel) None) None

abbrev pub cost_of : {V : Type 0} → Option (Known V) → Option V
cost_of None = None
cost_of (Some k) = Some k.cost

abbrev pub is_settled : {V : Type 0} → Option (Known V) → Bool
is_settled None = false
is_settled (Some k) = k.settled

-- a label, or another if it is unknown, or open and would cost less
abbrev pub better : {V : Type 0} → Ops V → Option (Known V) → Known V → Option (Known V)
better o None k = Some k
better o (Some h) k = cond (h.settled || o.at_most h.cost k.cost) (Some h) (Some k)

abbrev pub settle : {V : Type 0} → Option (Known V) → Option (Known V)
settle None = None
settle (Some k) = Some (record { cost = k.cost; step = k.step; from = k.from; settled = true })

-- the last step by which an arrival is known, and where that goes on from
abbrev pub back : {V : Type 0} → Option (Known V) → Option (Step × Point)
back None = None
back (Some k) = Some (k.step, k.from)

-- where a path arrives by a step
abbrev pub arrival_of : Net → Step → Arrival
arrival_of w e = arrival (head_of w e) e.channel

-- where a path stands that has arrived
abbrev pub point_of : Arrival → Point
point_of x = record { node = x.node; entered = Some x.channel }

-- the last step by which a point is reached, and where that goes on from; none where a path begins
abbrev pub back_from : {V : Type 0} → Labels V → ℕ → Option ℕ → Option (Step × Point)
back_from ls u None = None
back_from ls u (Some c) = back (ls (arrival u c))

-- a step at the end of what leads to where it goes on from
abbrev pub ending : Option (Step × Point) → (Point → List Step) → List Step
ending None before = []
ending (Some r) before = before r.1 ++ r.0 ∷ []

-- the steps by which the labels lead to a point, in the path's order, the last n of them
abbrev pub trail : {V : Type 0} → Labels V → ℕ → Point → List Step
trail ls zero a = []
trail ls (suc n) a = ending (back_from ls a.node a.entered) (trail ls n)

-- the path to a point that the labels of a table lead along
abbrev pub path_to : {V : Type 0} → Counts → List (Option (Known V)) → Point → List Step
path_to n table a = trail (labels_in n table) (arrival_entries n) a

-- a table with a path in front of what it held, where there is room for it
abbrev pub fronted : List Step → List Step → List Step
fronted p table = cond (nat_le (length p) (length table)) (p ++ drop (length p) table) table
