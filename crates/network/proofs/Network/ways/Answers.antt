use Rattle.std.proofs.Common.{ap, arith}
use Rattle.network.specs.declared.counts.Counts.{Counts}
use Rattle.network.proofs.Ways.{no_ways, ways_are}
use Rattle.network.proofs.Network.ways.Goals as goal

pub returns-then-node-nodes-clause-ways : goal.returns-then-node-nodes-clause-ways
returns-then-node-nodes-clause-ways c =
    let w = c.args.self.now in
    let nodes = ap (λ (n : Counts). n.nodes) c.counts-nodes.ensures in
    let channels = ap (λ (n : Counts). n.channels) c.counts-nodes.ensures in
    λ h. no_ways w.extent.counts w.spacing w.numbers w.ends w.tariffs.now w.converters.now c.args.node c.args.channel w.joined (omega arith)

pub returns-clause-ways : goal.returns-clause-ways
returns-clause-ways c =
    let w = c.args.self.now in
    let nodes = ap (λ (n : Counts). n.nodes) c.counts-nodes.ensures in
    λ h.
    ways_are w.extent.counts w.spacing w.numbers w.ends w.tariffs.now w.converters.now w.index.order w.index.starts w.rows.ways c.args.node c.args.channel c.counts-nodes.result.channels c.from-start.result c.from.result w.indexed w.wayed (omega arith) h
    (ap (λ (n : Counts). n.channels) c.counts-nodes.ensures) c.from-start.ensures c.from.ensures
