use Rattle.std.proofs.Common.{◌≡◌, ◌+◌, ◌*◌, ◌<◌, ℕ, length, slice_range}
use Rattle.network.specs.Indexes.{start_at, row_at}
use Rattle.network.specs.Rates.{WaysOf}
use Rattle.network.proofs.rows.all_ways.Given as goal

abbrev pub invariant-loop-node : goal.invariant-loop-node
invariant-loop-node l = record {
  long : length l.ways ≡ 4096;
  rows : (u : ℕ) → u < l.node →
      WaysOf l.extent.counts l.tariffs (row_at l.index.order l.index.starts u) (slice_range l.ways (start_at l.index.starts u * l.channels) (start_at l.index.starts (u + 1) * l.channels));
}
