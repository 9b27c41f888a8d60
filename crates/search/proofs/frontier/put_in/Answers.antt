use Rattle.std.proofs.Common.{arith}
use Rattle.heap.proofs.Few.{fresh_room}
use Rattle.search.proofs.frontier.put_in.Goals as goal

pub push-requires-clause-room : goal.push-requires-clause-room
push-requires-clause-room g c =
    let a = c.args in
    let room = fresh_room a.entries a.slots.now a.seats.now a.count c.requires.seated a.entry c.requires.element c.requires.fresh in
    omega (arith, room)

pub returns-clause-room : goal.returns-clause-room
returns-clause-room g c =
    let a = c.args in
    let room = fresh_room a.entries a.slots.now a.seats.now a.count c.requires.seated a.entry c.requires.element c.requires.fresh in
    omega (arith, room)
