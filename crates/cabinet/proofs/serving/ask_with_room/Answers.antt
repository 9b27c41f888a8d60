use Rattle.network.specs.Net.{net}
use Rattle.book.specs.State.{tables}
use Rattle.cabinet.proofs.Searched.{always_room}
use Rattle.cabinet.proofs.serving.ask_with_room.Goals as goal

pub returns-clause-call : goal.returns-clause-call
returns-clause-call g c =
    always_room g.K.Kind.ops (net c.args.network.now) c.args.book.now.extent.counts c.args.book.now.mark (tables c.args.book.now) c.args.order _ c.ask.result (tables c.ask.new.book) c.args.network.now.extent.counted c.requires c.ask.ensures.call
