use Rattle.network.specs.Net.{net}
use Rattle.book.specs.State.{tables}
use Rattle.cabinet.proofs.Served.{runs_from}
use Rattle.cabinet.proofs.running.run.Goals as goal

pub returns : goal.returns
returns c =
    let e = c.open-book.ensures in
    (tables c.serve_all-hand.new.book, c.serve_all-hand.result, runs_from (net c.args.network.now) _ _ _ _ (tables c.open-book.result) _ _ _ _ _ _ e.counts e.mark e.tables c.serve_all-hand.ensures.runs)
