use Rattle.std.proofs.Common.{arith}
use Rattle.std.proofs.lemmas.Grind.{common_steps}
use Rattle.desk.proofs.Going.{kept_then, part_way, going_on}
use Rattle.desk.proofs.input.feed.Goals as goal

pub loop-byte-preserved : goal.loop-byte-preserved
loop-byte-preserved c =
    let inv = c.loop-byte.invariant in
    let e = c.in_ok-take_byte.ensures in (
      kept_then _ _ _ inv.0 e.kept,
      going_on _ _ _ _ _ _ _ _ _ _ inv.1 inv.0.counts (omega arith) (grind (arith, common_steps)) _ _ e.ok,
    )

pub returns-in_err-take_byte-clause-err : goal.returns-in_err-take_byte-clause-err
returns-in_err-take_byte-clause-err c =
    let inv = c.loop-byte.invariant in
    part_way _ _ _ _ _ _ _ _ _ _ inv.1 inv.0.counts (omega arith) (grind (arith, common_steps)) _ _ c.in_err-take_byte.ensures.err
