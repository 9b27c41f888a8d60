-- What can be used at a moment, by the tables of a book.
use Rattle.std.specs.Prelude.{ℕ, Bool, true, false, cond, ◌&&◌, List, None, Option, is_none, slice_index_or}
use Rattle.network.specs.Net.{Net, tariff_of}
use Rattle.network.specs.declared.counts.Counts.{Counts}
use Rattle.network.specs.declared.step.Step.{Step}
use Rattle.records.specs.Chains.{Channel, channel_at}
use Rattle.records.specs.declared.state.SpanState.{SpanState}
use Rattle.records.specs.declared.state.SpanState.TheVariants.{Open, Shut}

abbrev pub is_open : SpanState → Bool
is_open Open = true
is_open Shut = false

-- a span is open; past the end of the table all are
abbrev pub span_is_open : List SpanState → ℕ → Bool
span_is_open spans e = is_open (slice_index_or spans e Open)

-- no circuit holds the channel that a step takes
abbrev pub channel_is_free : Counts → List Channel → Step → Bool
channel_is_free n channels e = is_none (channel_at n channels e)

-- the tariff of a step's channel where the span is open and the channel free, else none
abbrev pub fare_at : Net → List Channel → List SpanState → Step → Option ℕ
fare_at w channels spans e = cond (span_is_open spans e.span && channel_is_free w.counts channels e) (tariff_of w e.span e.channel) None
