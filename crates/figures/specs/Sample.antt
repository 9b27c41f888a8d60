-- The sample network, and what can be used of it.
use Rattle.std.specs.Prelude.{ℕ, ◌++◌, List, [], ◌∷◌, pos, None, replicate}
use Rattle.network.specs.Net.{Net}
use Rattle.network.specs.Tariffs.{absent}
use Rattle.network.specs.declared.span.Span.{Span}
use Rattle.network.specs.declared.spacing.Spacing.TheVariants.{Ghz100}
use Rattle.records.specs.declared.state.SpanState.{SpanState}
use Rattle.records.specs.declared.state.SpanState.TheVariants.{Open}
use Rattle.semilightpath.specs.Scenes.{Scene, scene}
use Rattle.moment.specs.Usable.{fare_at}

abbrev pub leads : ℕ → ℕ → Span
leads tail head = record { tail = tail; head = head }

-- 4 nodes, 4 spans and 2 channels; the one converter is node 1's, from channel 0 to channel 1 at tariff 1
abbrev pub sample : Net
sample = record {
  counts = record { nodes = 4; spans = 4; channels = 2 };
  spacing = Ghz100;
  numbers = pos 0 ∷ pos 1 ∷ [];
  ends = leads 0 1 ∷ leads 1 3 ∷ leads 0 2 ∷ leads 2 3 ∷ [];
  tariffs = 2 ∷ absent ∷ absent ∷ 3 ∷ 4 ∷ 4 ∷ 5 ∷ absent ∷ [];
  converters = replicate 5 absent ++ 1 ∷ replicate 10 absent;
}

-- the table of spans as a book's opening leaves it
abbrev pub all_open : List SpanState
all_open = replicate 4 Open

-- the sample network by a book's tables, in which all channels are free
abbrev pub by_spans : List SpanState → Scene
by_spans spans = scene sample (fare_at sample (replicate 8 None) spans)
