use Rattle.std.proofs.Common.{◌≡◌, ◌+◌, ◌*◌, ◌<◌, ℕ, length, slice_range}
use Rattle.network.specs.Rates.{ExitsOf}
use Rattle.network.proofs.rows.all_exits.Given as goal

abbrev pub invariant-loop-node : goal.invariant-loop-node
invariant-loop-node l = record {
  long : length l.exits ≡ 16384;
  rows : (u : ℕ) → u < l.node → ExitsOf l.extent.counts l.converters u (slice_range l.exits (u * l.size) (u * l.size + l.size));
}
