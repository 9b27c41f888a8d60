use Rattle.std.proofs.Common.{◌-◌, ◌/◌, refl, arith}
use Rattle.heap.proofs.Tables.{moves_trans, moved}
use Rattle.heap.proofs.Sifts.{by_key_order, hole_rises}
use Rattle.heap.proofs.sift.rise.Goals as goal

pub loop-at-preserved : goal.loop-at-preserved
loop-at-preserved g c =
    let l = c.loop-at in
    let p = (l.at - 1) / 4 in
    let laws = by_key_order (g.O.Order.key c.args.order.now) g.O.Order.most g.met.O.Order.laws in
    rw (c.put-in-loop-at.ensures.slots, c.put-in-loop-at.ensures.seats)
    (record {
      place = omega arith;
      moves = moves_trans _ _ _ _ _ _ _ _ l.invariant.moves (moved l.slots l.seats c.args.len l.at p c.args.x _ l.invariant.place (omega arith) (omega arith) (omega arith) refl _ (omega arith) c.requires.element l.invariant.moves.seated);
      rises = hole_rises _ l.slots l.at c.args.len c.args.x l.invariant.place (omega arith) laws p _ (omega arith, omega arith) refl (cc) l.invariant.rises;
    })
