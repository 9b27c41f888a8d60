use Rattle.book.proofs.Sounds.{good, lit_good, lit_makes, offered_is}
use Rattle.book.proofs.Book.light.Goals as goal

pub invariant_of-self : goal.invariant_of-self
invariant_of-self c =
    let r = offered_is _ c.requires.offered in
    let y = lit_good _ _ _ _ r.0 (good c.args.self.now) c.requires.known r.1 c.light.ensures.contents in
    record { wide = y.wide; rows = y.rows; spanned = y.spanned; within = y.sound.within; apart = y.sound.apart; whole = y.sound.whole; named = y.sound.named }

pub returns-clause-change : goal.returns-clause-change
returns-clause-change c =
    let r = offered_is _ c.requires.offered in
    lit_makes _ _ _ _ r.0 (good c.args.self.now) c.requires.known r.1 c.light.ensures.contents
