-- By a kind's laws the costs are in order.
use Rattle.std.proofs.Common.{arith}
use Rattle.cost.specs.Laws.{Ops, Laws}
use Rattle.heap.specs.Orders.{IsOrder}

pub IsOrder-at_most : {V : Type 0} {o : Ops V} → Laws o → IsOrder o.at_most
IsOrder-at_most laws = record { total = λ a b e. let t = laws.total a b in grind arith; transitive = laws.transitive }
