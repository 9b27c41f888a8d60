use Rattle.std.proofs.Common.{◌+◌, ◌*◌, ◌<◌, ℕ, slice_range}
use Rattle.std.specs.List.{range_with_len}
use Rattle.network.specs.Rates.{ByRate, exit_mark}
use Rattle.network.proofs.rows.write_exits.Given as goal

abbrev pub invariant-loop-from : goal.invariant-loop-from
invariant-loop-from l =
    (a : ℕ) → a < l.from →
    ByRate (exit_mark l.extent.counts l.converters l.node a) (range_with_len 0 l.extent.counts.channels) (slice_range l.part (a * l.channels) (a * l.channels + l.channels))
