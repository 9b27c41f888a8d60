use Rattle.std.proofs.Common.{◌≡◌, None}
use Rattle.fault.specs.Judging.{first, each}
use Rattle.plan.specs.Records.{record_row, previous}
use Rattle.plan.proofs.checks.check_section.Given as goal

abbrev pub invariant-loop-i : goal.invariant-loop-i
invariant-loop-i g l =
    (first (each l.i (record_row g.row.N (g.R.Judged.sound l.counts) g.R.Judged.fault l.window.start (g.R.Record.record_in l.window.bytes.now))) ≡ None) × (l.last ≡ previous (g.R.Record.record_in l.window.bytes.now) l.i)
