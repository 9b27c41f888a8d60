use Rattle.std.proofs.Common.{arith}
use Rattle.plan.proofs.Firsts.{first_pair}
use Rattle.plan.proofs.reader.cut_sections.Goals as goal

pub returns-in_err-converters : goal.returns-in_err-converters
returns-in_err-converters c = let pair = first_pair c.args.bytes.now c.args.header in grind arith
