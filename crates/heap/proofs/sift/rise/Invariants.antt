use Rattle.std.proofs.Common.{◌<◌, slice_set}
use Rattle.heap.specs.Orders.{by_key}
use Rattle.heap.specs.Heaps.{Rises, Moves}
use Rattle.heap.proofs.sift.rise.Given as goal

abbrev pub invariant-loop-at : goal.invariant-loop-at
invariant-loop-at g l = record {
  place : l.at < l.len;
  moves : Moves (g.O.Order.size l.order) (slice_set l.fn.slots l.hole l.x) (slice_set l.fn.seats l.x l.hole) l.len (slice_set l.slots l.at l.x) (slice_set l.seats l.x l.at);
  rises : Rises (by_key (g.O.Order.key l.order) g.O.Order.most) (slice_set l.slots l.at l.x) l.at l.len;
}

abbrev pub decreases-loop-at : goal.decreases-loop-at
decreases-loop-at g l = l.at
