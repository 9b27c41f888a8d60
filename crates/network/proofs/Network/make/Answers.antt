use Rattle.network.proofs.Ways.{ordered}
use Rattle.network.proofs.Network.make.Goals as goal

pub new-rows-requires-clause-ordered : goal.new-rows-requires-clause-ordered
new-rows-requires-clause-ordered c =
    ordered c.args.extent.counts c.args.ends c.new-index.result.order c.new-index.result.starts c.args.extent.counted.2 c.new-index.ensures
