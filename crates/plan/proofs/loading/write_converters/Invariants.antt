use Rattle.std.proofs.Common.{◌≡◌}
use Rattle.network.specs.Tables.{tabled}
use Rattle.network.specs.Tariffs.{converter_entries}
use Rattle.plan.specs.Records.{converter_in}
use Rattle.plan.specs.Telling.{listed}
use Rattle.plan.proofs.loading.write_converters.Given as goal

abbrev pub invariant-loop-bytes : goal.invariant-loop-bytes
invariant-loop-bytes l =
    l.table ≡ tabled (converter_entries l.extent.counts) (listed l.extent.counts (converter_in l.window.bytes.now) l.bytes-index) l.initial.table
