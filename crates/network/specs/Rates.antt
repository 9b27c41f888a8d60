-- Rows of numbers by rising rate, and where the tables of a network have them.
use Rattle.std.specs.Prelude.{◌≡◌, ℕ, ◌+◌, ◌*◌, ◌<◌, ◌≤◌, cond, ◌&&◌, List, nat_lt, slice_index_or, slice_range, length, Bool}
use Rattle.std.specs.List.{range_with_len, count_by, All}
use Rattle.std.specs.List.Sorted.{IsNonDecreasingBy}
use Rattle.network.specs.declared.counts.Counts.{Counts}
use Rattle.network.specs.Tariffs.{absent, span_entry, converter_entry}
use Rattle.network.specs.Indexes.{start_at, width_at, row_at}

-- a row has just these numbers, each as often, and their rates rise
pub record ByRate (rate : ℕ → ℕ) (numbers row : List ℕ) : Type 0 where
  pub same : (p : ℕ → Bool) → count_by p row ≡ count_by p numbers
  pub rising : IsNonDecreasingBy rate row

-- what the table has for a channel of a span, absent beyond the network
abbrev pub span_mark : Counts → List ℕ → ℕ → ℕ → ℕ
span_mark n tariffs c e = cond (nat_lt e n.spans && nat_lt c n.channels) (slice_index_or tariffs (span_entry n e c) absent) absent

-- what the table has for a converter of a node, absent beyond the network
abbrev pub exit_mark : Counts → List ℕ → ℕ → ℕ → ℕ → ℕ
exit_mark n converters u a b =
    cond (nat_lt u n.nodes && (nat_lt a n.channels && nat_lt b n.channels)) (slice_index_or converters (converter_entry n u a b) absent) absent

-- the rows of an index stand one behind the other, and hold numbers below 256
abbrev pub Ordered : Counts → List ℕ → List ℕ → Type 0
Ordered n order starts =
    (u : ℕ) → u < n.nodes →
    (start_at starts u ≤ start_at starts (u + 1)) × (start_at starts (u + 1) ≤ 256) × All (λ e. e < 256) (row_at order starts u)

-- the rows of the channels lie together, and are as wide as the spans are many
abbrev pub WaysOf : Counts → List ℕ → List ℕ → List ℕ → Type 0
WaysOf n tariffs spans part =
    (c : ℕ) → c < n.channels → ByRate (span_mark n tariffs c) spans (slice_range part (c * length spans) (c * length spans + length spans))

-- where the row of a node and a channel begins: the rows of a node lie together
abbrev pub way_at : Counts → List ℕ → ℕ → ℕ → ℕ
way_at n starts u c = start_at starts u * n.channels + c * width_at starts u

-- the spans that leave a node stand from there on, by what the table has for them on the channel
abbrev pub Wayed : Counts → List ℕ → List ℕ → List ℕ → List ℕ → Type 0
Wayed n order starts tariffs ways =
    (u c : ℕ) → u < n.nodes → c < n.channels →
    ByRate (span_mark n tariffs c) (row_at order starts u) (slice_range ways (way_at n starts u c) (way_at n starts u c + width_at starts u))

-- the rows of the channels from which a node may convert lie together
abbrev pub ExitsOf : Counts → List ℕ → ℕ → List ℕ → Type 0
ExitsOf n converters u part =
    (a : ℕ) → a < n.channels → ByRate (exit_mark n converters u a) (range_with_len 0 n.channels) (slice_range part (a * n.channels) (a * n.channels + n.channels))

-- where the row of a node and a channel to convert from begins
abbrev pub exit_at : Counts → ℕ → ℕ → ℕ
exit_at n u a = (u * n.channels + a) * n.channels

-- all channels stand from there on, by what the table has for them
abbrev pub Exited : Counts → List ℕ → List ℕ → Type 0
Exited n converters exits =
    (u a : ℕ) → u < n.nodes → a < n.channels →
    ByRate (exit_mark n converters u a) (range_with_len 0 n.channels) (slice_range exits (exit_at n u a) (exit_at n u a + n.channels))
