use Rattle.std.proofs.Common.{ap}
use Rattle.network.specs.declared.counts.Counts.{Counts}
use Rattle.network.proofs.Ways.{exits_are}
use Rattle.network.proofs.Network.exits.Goals as goal

pub returns-clause-exits : goal.returns-clause-exits
returns-clause-exits c =
    let w = c.args.self.now in
    λ hu ha.
    exits_are w.extent.counts w.spacing w.numbers w.ends w.tariffs.now w.converters.now w.rows.exits c.args.node c.args.from c.counts-nodes.result.channels w.exited hu ha
    (ap (λ (n : Counts). n.channels) c.counts-nodes.ensures)
