use Rattle.std.proofs.Common.{slice_index, ap, ◌∙◌, arith}
use Rattle.heap.proofs.Tables.{seat}
use Rattle.heap.proofs.Ends.{lower_moves}
use Rattle.heap.proofs.calls.lower.Goals as goal

pub bounds-seats-from : goal.bounds-seats-from
bounds-seats-from g c =
    let a = c.args in
    let below = (seat _ a.slots.now a.seats.now a.len a.x c.requires.seated c.requires.held).0 in
    omega (arith, below)

pub rise-requires-clause-element : goal.rise-requires-clause-element
rise-requires-clause-element g c =
    let a = c.args in
    (seat _ a.slots.now a.seats.now a.len a.x c.requires.seated c.requires.held).0

pub returns-clause-same : goal.returns-clause-same
returns-clause-same g c =
    let a = c.args in
    (lower_moves _ a.slots.now a.seats.now a.len a.x _ c.requires.seated c.requires.held (c.from-at.ensures ∙ ap (slice_index a.seats.now) c.from.ensures) _ _ c.rise.ensures.moves).same

pub returns-clause-rest : goal.returns-clause-rest
returns-clause-rest g c =
    let a = c.args in
    (lower_moves _ a.slots.now a.seats.now a.len a.x _ c.requires.seated c.requires.held (c.from-at.ensures ∙ ap (slice_index a.seats.now) c.from.ensures) _ _ c.rise.ensures.moves).rest
