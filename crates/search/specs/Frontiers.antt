-- The frontier of a search: a heap of the entries of the arrivals that are known and open.
use Rattle.std.specs.Prelude.{◌≡◌, ℕ, Bool, false, not, List, Some, None, Option, slice_index_or}
use Rattle.network.specs.Tariffs.{arrival_entry}
use Rattle.network.specs.declared.counts.Counts.{Counts}
use Rattle.cost.specs.Laws.{Ops}
use Rattle.heap.specs.Orders.{by_key}
use Rattle.heap.specs.Heaps.{is_held}
use Rattle.search.specs.declared.arrival.Arrival.{Arrival}
use Rattle.search.specs.declared.label.Known.{Known}
use Rattle.search.specs.Labels.{Labels, IsInside}

-- an arrival is known and open
abbrev pub is_open : {V : Type 0} → Option (Known V) → Bool
is_open None = false
is_open (Some k) = not k.settled

-- what a label costs; where nothing is known, what a path costs at its start
abbrev pub cost_or : {V : Type 0} → Ops V → Option (Known V) → V
cost_or o None = o.start
cost_or o (Some k) = k.cost

-- what an entry of a table of labels costs
abbrev pub entry_cost : {V : Type 0} → Ops V → List (Option (Known V)) → ℕ → V
entry_cost o table e = cost_or o (slice_index_or table e None)

-- the order of the entries of a table, by their costs
abbrev pub entry_at_most : {V : Type 0} → Ops V → List (Option (Known V)) → ℕ → ℕ → Bool
entry_at_most o table = by_key (entry_cost o table) o.at_most

-- the entries of just the open arrivals are held
abbrev pub Listed : {V : Type 0} → Counts → Labels V → List ℕ → List ℕ → ℕ → Type 0
Listed n ls slots seats count = (x : Arrival) → IsInside n x → is_held slots seats count (arrival_entry n x.node x.channel) ≡ is_open (ls x)
