use Rattle.heap.proofs.Ends.{push_rest}
use Rattle.heap.proofs.calls.push.Goals as goal

pub returns-clause-rest : goal.returns-clause-rest
returns-clause-rest g c =
    let a = c.args in
    push_rest _ a.slots.now a.seats.now a.len a.x c.requires.room c.requires.element c.requires.sized _ _ c.rise.ensures.moves
