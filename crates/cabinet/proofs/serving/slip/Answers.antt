use Rattle.std.proofs.Common.{rules}
use Rattle.network.specs.Net.{net}
use Rattle.book.specs.State.{tables}
use Rattle.cabinet.proofs.Slipped.{path_short, slipped_ok, slipped_err}
use Rattle.cabinet.proofs.serving.slip.Goals as goal

pub returns-in-Ok : goal.returns-in-Ok
returns-in-Ok c =
    let b = c.args.book.now in
    let short = path_short b.extent.counts (tables b) c.args.circuit b.extent.counted b.whole in
    slipped_ok (net c.args.network.now) b.extent.counts (tables b) c.args.circuit c.args.place c.args.switches.now c.slip.result _ c.slip.new.buffer c.counted.result short (search rules) c.slip.ensures.call _ _ c.in-Ok.is c.in-Ok.ensures.tells c.slip.ensures.lead.count c.counted.ensures c.write_from.ensures

pub returns-in-Err : goal.returns-in-Err
returns-in-Err c =
    let b = c.args.book.now in
    let short = path_short b.extent.counts (tables b) c.args.circuit b.extent.counted b.whole in
    slipped_err (net c.args.network.now) b.extent.counts (tables b) c.args.circuit c.args.place c.args.switches.now c.slip.result _ c.slip.new.buffer c.refused_by_book.result short (search rules) c.slip.ensures.call c.in-Err.fault c.in-Err.is c.refused_by_book.ensures
