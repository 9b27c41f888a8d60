use Rattle.std.proofs.Common.{arith}
use Rattle.heap.proofs.Sifts.{by_key_order, greater_child, lesser_child, all_children}
use Rattle.heap.proofs.sift.least_child.Goals as goal
use Rattle.heap.proofs.sift.least_child.Goals.{then-not-at_most, else-not-at_most}

pub loop-child-preserved : goal.loop-child-preserved
loop-child-preserved g c =
    let l = c.loop-child in
    let order = by_key_order (g.O.Order.key c.args.order.now) g.O.Order.most g.met.O.Order.laws in
    elim c.if-not-at_most.branch [
      | then-not-at_most w ↦ rw (w.least-is, w.least_key-is)
          (record {
            child = (omega arith, omega (arith, c.min-child-end.ensures));
            before = omega arith;
            key = c.key-key.ensures;
            least = lesser_child _ order c.args.slots.now c.args.at l.least l.child (cc) l.invariant.least;
          })
      | else-not-at_most w ↦ rw (w.least-is, w.least_key-is)
          (record {
            child = l.invariant.child;
            before = omega arith;
            key = l.invariant.key;
            least = greater_child _ order c.args.slots.now c.args.at l.least l.child (cc) l.invariant.least;
          })
    ]

pub returns-clause-least : goal.returns-clause-least
returns-clause-least g c = all_children _ c.args.slots.now c.args.at c.loop-child.least c.loop-child.child c.args.len (omega (arith, c.min-child-end.ensures)) c.loop-child.invariant.least
