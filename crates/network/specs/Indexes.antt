-- The spans by the nodes that they leave.
use Rattle.std.specs.Prelude.{◌≡◌, ℕ, ◌+◌, ◌-◌, ◌<◌, ◌≤◌, List, filter, ◌==◌, slice_index, slice_range}
use Rattle.std.specs.List.{range_with_len}
use Rattle.network.specs.declared.counts.Counts.{Counts}
use Rattle.network.specs.declared.span.Span.{Span}
use Rattle.network.specs.Limits.{span_at}

-- of the first n spans those that leave a node, by rising number
abbrev pub leaving_by : ℕ → List Span → ℕ → List ℕ
leaving_by n ends node = filter (λ e. (span_at ends e).tail == node) (range_with_len 0 n)

-- where a node's row begins in the order, and so where the row of the node before it ends
abbrev pub start_at : List ℕ → ℕ → ℕ
start_at starts node = slice_index starts node

-- how many spans stand in a node's row, and the row
abbrev pub width_at : List ℕ → ℕ → ℕ
width_at starts node = start_at starts (node + 1) - start_at starts node

abbrev pub row_at : List ℕ → List ℕ → ℕ → List ℕ
row_at order starts node = slice_range order (start_at starts node) (start_at starts (node + 1))

-- the rows of the first m nodes stand in the order, one behind the other, and end at or before a place
abbrev pub Rows : ℕ → ℕ → ℕ → List Span → List ℕ → List ℕ → Type 0
Rows m end n ends order starts =
    (u : ℕ) → u < m →
    (start_at starts u ≤ start_at starts (u + 1)) × (start_at starts (u + 1) ≤ end)
    × (slice_range order (start_at starts u) (start_at starts (u + 1)) ≡ leaving_by n ends u)

-- the spans that leave a node stand in the order from its start to the next node's
abbrev pub Indexed : Counts → List Span → List ℕ → List ℕ → Type 0
Indexed n ends order starts = Rows n.nodes 256 n.spans ends order starts

-- a span from its head to its tail
abbrev pub turned : Span → Span
turned s = record { tail = s.head; head = s.tail }
