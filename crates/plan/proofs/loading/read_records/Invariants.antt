use Rattle.std.proofs.Common.{◌≡◌}
use Rattle.network.specs.Tables.{tabled}
use Rattle.plan.proofs.loading.read_records.Given as goal

abbrev pub invariant-loop-i : goal.invariant-loop-i
invariant-loop-i g l = l.table ≡ tabled l.i (g.R.Record.record_in l.window.bytes.now) l.initial.table
