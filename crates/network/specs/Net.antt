-- The network as a mathematical value.
use Rattle.std.specs.Prelude.{ℕ, cond, ◌&&◌, List, take, ℤ, None, Option, nat_lt, slice_index_or}
use Rattle.network.specs.declared.Network.{Network}
use Rattle.network.specs.declared.counts.Counts.{Counts}
use Rattle.network.specs.declared.span.Span.{Span}
use Rattle.network.specs.declared.spacing.Spacing.{Spacing}
use Rattle.network.specs.Extents.{given}
use Rattle.network.specs.Tariffs.{absent, tariff, span_entries, span_entry, converter_entries, converter_entry}
use Rattle.network.specs.Limits.{number_at, span_at}
use Rattle.network.specs.Indexes.{leaving_by}

-- each list is just as long as the counts say
pub record Net : Type 0 where
  pub counts : Counts
  pub spacing : Spacing
  pub numbers : List ℤ
  pub ends : List Span
  pub tariffs : List ℕ
  pub converters : List ℕ

abbrev pub value : Counts → Spacing → List ℤ → List Span → List ℕ → List ℕ → Net
value n spacing numbers ends tariffs converters = record {
  counts = n;
  spacing = spacing;
  numbers = take n.channels numbers;
  ends = take n.spans ends;
  tariffs = take (span_entries n) tariffs;
  converters = take (converter_entries n) converters;
}

-- what a network is, whatever its tables hold beyond
abbrev pub net : Network → Net
net w = value w.extent.counts w.spacing w.numbers w.ends w.tariffs.now w.converters.now

-- the number n of a channel
abbrev pub number_of : Net → ℕ → Option ℤ
number_of w c = given (nat_lt c w.counts.channels) (number_at w.numbers c)

-- the ends of a span
abbrev pub span_of : Net → ℕ → Option Span
span_of w e = given (nat_lt e w.counts.spans) (span_at w.ends e)

-- the spans that leave a node, by rising number
abbrev pub leaving : Net → ℕ → List ℕ
leaving w node = leaving_by w.counts.spans w.ends node

-- the tariff of a channel on a span, where the span carries it
abbrev pub tariff_of : Net → ℕ → ℕ → Option ℕ
tariff_of w e c =
    cond (nat_lt e w.counts.spans && nat_lt c w.counts.channels) (tariff (slice_index_or w.tariffs (span_entry w.counts e c) absent)) None

-- the tariff of a converter at a node, where there is one
abbrev pub converter_of : Net → ℕ → ℕ → ℕ → Option ℕ
converter_of w u a b =
    cond (nat_lt u w.counts.nodes && (nat_lt a w.counts.channels && nat_lt b w.counts.channels))
    (tariff (slice_index_or w.converters (converter_entry w.counts u a b) absent))
    None
