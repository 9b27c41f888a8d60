use Rattle.slip.proofs.Labelled.{labelled}
use Rattle.slip.proofs.writing.label.Goals as goal

pub returns : goal.returns
returns c =
    let w = c.args.network.now in
    let known = labelled w.extent.counts w.numbers w.ranged c.from.result c.spacing.ensures c.code.ensures.is c.number.ensures c.unwrap_or-number.ensures c.write.ensures.is in
    cc (known, c.in-Ok.is, c.from.ensures)

pub unreachable-requires : goal.unreachable-requires
unreachable-requires c =
    let w = c.args.network.now in
    let known = labelled w.extent.counts w.numbers w.ranged c.from.result c.spacing.ensures c.code.ensures.is c.number.ensures c.unwrap_or-number.ensures c.write.ensures.is in
    cc (known, c.in_default.is)
