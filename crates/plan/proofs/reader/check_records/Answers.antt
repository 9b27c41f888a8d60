use Rattle.std.proofs.Common.{arith}
use Rattle.plan.proofs.Firsts.{first_row}
use Rattle.plan.proofs.reader.check_records.Goals as goal

pub returns : goal.returns
returns c = let row = first_row c.args.plan in grind arith
