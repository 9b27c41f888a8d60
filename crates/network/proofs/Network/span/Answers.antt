use Rattle.std.proofs.Common.{arith}
use Rattle.std.proofs.lemmas.Grind.{common_steps}
use Rattle.network.proofs.Ended.{told_joined}
use Rattle.network.proofs.Network.span.Goals as goal

pub returns-clause-joined : goal.returns-clause-joined
returns-clause-joined c = told_joined c.args.self.now.extent.counts c.args.self.now.ends c.args.span c.copied.result c.args.self.now.joined (grind (arith, common_steps))
