use Rattle.book.proofs.Sounds.{good, freed_good, freed_makes}
use Rattle.book.proofs.Book.free.Goals as goal

pub invariant_of-self : goal.invariant_of-self
invariant_of-self c =
    let y = freed_good _ _ _ _ (good c.args.self.now) c.requires c.free.ensures.contents in
    record { wide = y.wide; rows = y.rows; spanned = y.spanned; within = y.sound.within; apart = y.sound.apart; whole = y.sound.whole; named = y.sound.named }

pub returns-clause-change : goal.returns-clause-change
returns-clause-change c = freed_makes _ _ _ _ (good c.args.self.now) c.requires c.free.ensures.contents
