use Rattle.std.proofs.Common.{refl, arith}
use Rattle.heap.proofs.Tables.{moves_trans, moved}
use Rattle.heap.proofs.Sifts.{by_key_order, hole_sinks}
use Rattle.heap.proofs.sift.sink.Goals as goal

pub loop-at-preserved : goal.loop-at-preserved
loop-at-preserved g c =
    let l = c.loop-at in
    let p = c.least_child-child.result.0 in
    let told = c.least_child-child.ensures in
    let laws = by_key_order (g.O.Order.key c.args.order.now) g.O.Order.most g.met.O.Order.laws in
    rw (c.put-in-loop-at.ensures.slots, c.put-in-loop-at.ensures.seats)
    (record {
      place = told.within;
      moves = moves_trans _ _ _ _ _ _ _ _ l.invariant.moves (moved l.slots l.seats c.args.len l.at p c.args.x _ l.invariant.place told.within (omega arith) (omega arith) refl _ (omega arith) c.requires.element l.invariant.moves.seated);
      sinks = hole_sinks _ l.slots l.at c.args.len c.args.x l.invariant.place (omega arith) laws p _ told.child told.within refl told.least (cc) l.invariant.sinks;
    })
