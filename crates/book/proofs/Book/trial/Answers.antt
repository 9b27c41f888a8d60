use Rattle.std.proofs.Common.{rules, length, sym, subst}
use Rattle.network.specs.Net.{net}
use Rattle.book.specs.State.{tables}
use Rattle.book.proofs.Numbered.{tries_numbered}
use Rattle.book.proofs.Sounds.{Good, good}
use Rattle.book.proofs.Book.trial.Goals as goal

pub invariant_of-self : goal.invariant_of-self
invariant_of-self g c =
    let y = subst (Good _) (sym c.price_without.ensures.contents) (good c.args.self.now) in
    record { wide = y.wide; rows = y.rows; spanned = y.spanned; within = y.sound.within; apart = y.sound.apart; whole = y.sound.whole; named = y.sound.named }

pub returns-clause-call : goal.returns-clause-call
returns-clause-call g c = search rules

pub returns-clause-numbered : goal.returns-clause-numbered
returns-clause-numbered g c = λ k. tries_numbered k g.K.Kind.ops (net c.args.network.now) c.args.self.now.extent.counts (tables c.args.self.now) c.args.from c.args.to c.args.span (length c.args.labels.now) _ (returns-clause-call g c)
