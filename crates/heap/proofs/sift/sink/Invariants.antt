use Rattle.std.proofs.Common.{◌<◌, ◌-◌, slice_set}
use Rattle.heap.specs.Orders.{by_key}
use Rattle.heap.specs.Heaps.{Sinks, Moves}
use Rattle.heap.proofs.sift.sink.Given as goal

abbrev pub invariant-loop-at : goal.invariant-loop-at
invariant-loop-at g l = record {
  place : l.at < l.len;
  moves : Moves (g.O.Order.size l.order) (slice_set l.fn.slots 0 l.x) (slice_set l.fn.seats l.x 0) l.len (slice_set l.slots l.at l.x) (slice_set l.seats l.x l.at);
  sinks : Sinks (by_key (g.O.Order.key l.order) g.O.Order.most) (slice_set l.slots l.at l.x) l.at l.len;
}

abbrev pub decreases-loop-at : goal.decreases-loop-at
decreases-loop-at g l = l.len - l.at
