use Rattle.std.proofs.Common.{◌+◌, ◌*◌, ◌<◌, length, ℕ, slice_range}
use Rattle.network.specs.Rates.{ByRate, span_mark}
use Rattle.network.proofs.rows.write_ways.Given as goal

abbrev pub invariant-loop-channel : goal.invariant-loop-channel
invariant-loop-channel l =
    (c : ℕ) → c < l.channel → ByRate (span_mark l.extent.counts l.tariffs c) l.spans (slice_range l.part (c * length l.spans) (c * length l.spans + length l.spans))
