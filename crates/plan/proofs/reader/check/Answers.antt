use Rattle.std.proofs.Common.{length, arith}
use Rattle.plan.proofs.Firsts.{first_of_load}
use Rattle.plan.proofs.Outside.{unread}
use Rattle.plan.proofs.Owed.{counted}
use Rattle.plan.proofs.reader.check.Goals as goal

pub extent-requires : goal.extent-requires
extent-requires c = counted c.in_ok-plan.plan c.args.bytes.now c.in_ok-plan.ensures.1 c.in_ok-plan.ensures.0

pub returns-in_err-check_room-clause-answer : goal.returns-in_err-check_room-clause-answer
returns-in_err-check_room-clause-answer c =
    let load = first_of_load c.args.bytes.now (length c.args.tariffs.now) (length c.args.converters.now) in grind arith

pub returns-in_err-check_room-clause-unread : goal.returns-in_err-check_room-clause-unread
returns-in_err-check_room-clause-unread c = unread

pub returns-clause-answer : goal.returns-clause-answer
returns-clause-answer c =
    let t = c.in_ok-plan.ensures in
    record { sound = grind (arith, first_of_load); told = t.1; fitted = t.2 }
