use Rattle.std.proofs.Common.{arith}
use Rattle.laying.proofs.Laying.{laying_begins, laying_more, laid_back, laid_long}
use Rattle.laying.proofs.lay.Goals as goal

pub loop-steps-init : goal.loop-steps-init
loop-steps-init g c = laying_begins _ _ _ _ _ _ _ (omega arith)

pub loop-steps-preserved : goal.loop-steps-preserved
loop-steps-preserved g c =
    laying_more _ _ _ _ _ _ _ _ _ _ _ _ c.in-Some.last (omega (arith, c.loop-steps-test.true, c.arrival_entries-limit.ensures.is)) c.last_step.ensures c.in-Some.is c.write.ensures c.loop-steps.invariant

pub returns-in_default : goal.returns-in_default
returns-in_default g c =
    let l = laid_back _ _ _ _ _ _ _ _ _ _ _ c.last_step.ensures c.in_default.is c.loop-steps.invariant in
    record { channels = l.holds; first = l.leads; steps = l.long }

pub returns : goal.returns
returns g c =
    let l = laid_long _ _ _ _ _ _ _ _ _ _ (omega arith) c.loop-steps.invariant in
    record { channels = l.holds; first = l.leads; steps = omega (arith, l.long) }
