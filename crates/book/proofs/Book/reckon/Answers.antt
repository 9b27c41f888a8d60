use Rattle.std.proofs.Common.{rules}
use Rattle.network.specs.Net.{net}
use Rattle.book.specs.State.{tables}
use Rattle.book.proofs.Numbered.{reckons_numbered}
use Rattle.book.proofs.Book.reckon.Goals as goal

pub returns-clause-call : goal.returns-clause-call
returns-clause-call g c = search rules

pub returns-clause-numbered : goal.returns-clause-numbered
returns-clause-numbered g c = λ k. reckons_numbered k g.K.Kind.ops (net c.args.network.now) c.args.self.now.extent.counts (tables c.args.self.now) c.args.circuit _ (returns-clause-call g c)
