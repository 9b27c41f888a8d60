use Rattle.book.proofs.Sounds.{good, taken_good, taken_makes, taken_path_in}
use Rattle.book.proofs.Book.take.Goals as goal

pub invariant_of-self : goal.invariant_of-self
invariant_of-self g c =
    let y = taken_good _ _ _ _ _ _ _ (good c.args.self.now) c.requires c.take.ensures.contents in
    record { wide = y.wide; rows = y.rows; spanned = y.spanned; within = y.sound.within; apart = y.sound.apart; whole = y.sound.whole; named = y.sound.named }

pub returns-clause-change : goal.returns-clause-change
returns-clause-change g c = taken_makes _ _ _ _ _ _ _ (good c.args.self.now) c.requires c.take.ensures.contents

pub returns-clause-path : goal.returns-clause-path
returns-clause-path g c = taken_path_in _ _ _ _ _ _ _ (good c.args.self.now) c.requires c.take.ensures.contents
