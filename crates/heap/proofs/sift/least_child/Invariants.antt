use Rattle.std.proofs.Common.{◌≡◌, ◌<◌, slice_index}
use Rattle.heap.specs.Orders.{by_key}
use Rattle.heap.specs.Heaps.{IsChild, IsLeastChild}
use Rattle.heap.proofs.sift.least_child.Given as goal

abbrev pub invariant-loop-child : goal.invariant-loop-child
invariant-loop-child g l = record {
  child : IsChild l.at l.least;
  before : l.least < l.child;
  key : l.least_key ≡ g.O.Order.key l.order (slice_index l.slots l.least);
  least : IsLeastChild (by_key (g.O.Order.key l.order) g.O.Order.most) l.slots l.at l.least l.child;
}
