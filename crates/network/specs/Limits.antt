-- The limits of every network.
use Rattle.std.specs.Prelude.{◌≡◌, ℕ, ◌+◌, ◌<◌, ◌≤◌, Bool, true, ◌&&◌, List, length, take, ℤ, pos, negsuc, ◌≢◌, int_le, int_lt, slice_index_or}
use Rattle.network.specs.declared.counts.Counts.{Counts}
use Rattle.network.specs.declared.span.Span.{Span}
use Rattle.network.specs.Tariffs.{absent, span_entries, converter_entries, converter_entry, present}

-- a channel number is from -1000 to 1000
abbrev pub in_range : ℤ → Bool
in_range n = int_le (negsuc 999) n && int_le n (pos 1000)

abbrev pub number_at : List ℤ → ℕ → ℤ
number_at numbers c = slice_index_or numbers c (pos 0)

abbrev pub Ranged : Counts → List ℤ → Type 0
Ranged n numbers = (c : ℕ) → c < n.channels → in_range (number_at numbers c) ≡ true

-- channel numbers rise
abbrev pub Rising : Counts → List ℤ → Type 0
Rising n numbers = (c : ℕ) → c + 1 < n.channels → int_lt (number_at numbers c) (number_at numbers (c + 1)) ≡ true

-- what a read past the end gives; no span is read there
abbrev pub no_span : Span
no_span = record { tail = 0; head = 0 }

abbrev pub span_at : List Span → ℕ → Span
span_at ends e = slice_index_or ends e no_span

-- a span joins two different nodes of the network
abbrev pub IsJoined : Counts → Span → Type 0
IsJoined n s = (s.tail < n.nodes) × (s.head < n.nodes) × (s.tail ≢ s.head)

abbrev pub Joined : Counts → List Span → Type 0
Joined n ends = (e : ℕ) → e < n.spans → IsJoined n (span_at ends e)

-- the tables have an entry for all that is asked of them
abbrev pub Roomy : Counts → List ℕ → List ℕ → Type 0
Roomy n tariffs converters = (span_entries n ≤ length tariffs) × (converter_entries n ≤ length converters)

-- there are at most 4096 converters
abbrev pub Few : Counts → List ℕ → Type 0
Few n converters = present (take (converter_entries n) converters) ≤ 4096

-- no converter changes a channel into itself
abbrev pub Proper : Counts → List ℕ → Type 0
Proper n converters =
    (u c : ℕ) → (u < n.nodes) × (c < n.channels) → slice_index_or converters (converter_entry n u c c) absent ≡ absent
