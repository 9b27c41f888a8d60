use Rattle.std.proofs.Common.{set, ap, ◌∙◌, arith}
use Rattle.network.proofs.Filled.{filled_more}
use Rattle.network.proofs.table.fill_all.Goals as goal

pub loop-entry-preserved : goal.loop-entry-preserved
loop-entry-preserved g c =
    ap (λ l. set l c.loop-entry.entry-index c.args.value) c.loop-entry.invariant ∙ filled_more c.args.entries.now c.loop-entry.entry-index c.args.value (omega arith)
