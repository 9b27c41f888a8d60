use Rattle.network.specs.Net.{net}
use Rattle.book.specs.State.{tables}
use Rattle.book.specs.Changes.{path_in}
use Rattle.slip.proofs.Told.{settings_lead}
use Rattle.book.proofs.Slipped.{told_slip}
use Rattle.book.proofs.Book.slip.Goals as goal

pub returns-clause-tells : goal.returns-clause-tells
returns-clause-tells c =
    let known = c.in_ok-route.ensures in
    told_slip _ (net c.args.network.now) (tables c.args.self.now) _ _ _ _ known.0 known.1 c.write_slip.ensures.tells

pub returns-clause-lead : goal.returns-clause-lead
returns-clause-lead c = settings_lead (net c.args.network.now) (path_in c.args.self.now.extent.counts (tables c.args.self.now) c.args.circuit)

pub returns-in_err-route-clause-lead : goal.returns-in_err-route-clause-lead
returns-in_err-route-clause-lead c = settings_lead (net c.args.network.now) (path_in c.args.self.now.extent.counts (tables c.args.self.now) c.args.circuit)
