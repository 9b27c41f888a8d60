use Rattle.book.specs.State.{tables}
use Rattle.cabinet.proofs.Spendable.{still_good}
use Rattle.cabinet.proofs.serving.serve.Goals as goal

pub returns-in-Ok-Darken-clause-good : goal.returns-in-Ok-Darken-clause-good
returns-in-Ok-Darken-clause-good c =
    still_good _ _ _ (tables c.args.book.now) (tables c.darken-reply.new.book) _ _ c.args.hand c.darken-reply.ensures.kept.mark c.darken-reply.ensures.call.1 c.requires
