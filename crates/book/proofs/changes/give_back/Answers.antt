use Rattle.std.proofs.Common.{arith}
use Rattle.records.proofs.Giving.{gives_one, gave_all, gave_none}
use Rattle.book.proofs.changes.give_back.Goals as goal

pub returns-in_default : goal.returns-in_default
returns-in_default c = gave_none _ _ _ _ _ c.in_default.is c.loop.invariant

pub loop-preserved : goal.loop-preserved
loop-preserved c = gives_one _ _ _ _ _ _ _ _ _ c.loop-test.true c.in-Some.is c.write.ensures c.next_step-at.ensures c.loop.invariant

pub returns : goal.returns
returns c = gave_all _ _ _ _ _ (omega arith) c.loop.invariant
