use Rattle.std.proofs.Common.{◌-◌, refl, arith}
use Rattle.heap.proofs.Ends.{pop_rest, pop_least}
use Rattle.heap.proofs.Sifts.{by_key_order}
use Rattle.heap.proofs.calls.pop_least.Goals as goal

pub returns-then-len-gt1-clause-least : goal.returns-then-len-gt1-clause-least
returns-then-len-gt1-clause-least g c =
    let a = c.args in
    pop_least _ (by_key_order (g.O.Order.key a.order.now) g.O.Order.most g.met.O.Order.laws) a.slots.now a.len c.requires.heap

pub returns-then-len-gt1-clause-rest : goal.returns-then-len-gt1-clause-rest
returns-then-len-gt1-clause-rest g c =
    let a = c.args in
    pop_rest _ a.slots.now a.seats.now a.len (a.len - 1) _ (omega arith) (omega arith) c.requires.fits c.requires.sized refl c.requires.seated _ _ c.sink.ensures.moves
