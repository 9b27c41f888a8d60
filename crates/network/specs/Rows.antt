-- The rows that a search goes along.
use Rattle.std.specs.Prelude.{ℕ, List, filter, ◌==◌}
use Rattle.std.specs.Option.{unwrap_or}
use Rattle.std.specs.List.{range_with_len}
use Rattle.network.specs.declared.span.Span.{Span}
use Rattle.network.specs.Tariffs.{absent}
use Rattle.network.specs.Limits.{span_at}
use Rattle.network.specs.Net.{Net, leaving, tariff_of, converter_of}
pub use Rattle.network.specs.Rates.{ByRate}

-- what a channel of a span charges, absent where it is not carried
abbrev pub span_rate : Net → ℕ → ℕ → ℕ
span_rate w c e = unwrap_or (tariff_of w e c) absent

-- what a node charges to convert from a channel into another, absent where it does not
abbrev pub exit_rate : Net → ℕ → ℕ → ℕ → ℕ
exit_rate w u a b = unwrap_or (converter_of w u a b) absent

-- the ways from a node on a channel: the spans that leave it, the cheapest first
abbrev pub Ways : Net → ℕ → ℕ → List ℕ → Type 0
Ways w u c row = ByRate (span_rate w c) (leaving w u) row

-- the exits from a channel at a node: the channels, the cheapest to convert into first
abbrev pub Exits : Net → ℕ → ℕ → List ℕ → Type 0
Exits w u a row = ByRate (exit_rate w u a) (range_with_len 0 w.counts.channels) row

-- of the first n spans those that enter a node, by rising number
abbrev pub entering_by : ℕ → List Span → ℕ → List ℕ
entering_by n ends node = filter (λ e. (span_at ends e).head == node) (range_with_len 0 n)

-- the spans that enter a node, by rising number
abbrev pub entering : Net → ℕ → List ℕ
entering w node = entering_by w.counts.spans w.ends node
