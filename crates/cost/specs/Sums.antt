-- SUM: the tariffs added up, as far as the largest sum.
use Rattle.std.specs.Prelude.{ℕ, ◌+◌, min, List, decimal, nat_le}
use Rattle.std.proofs.Math.Nat.{min-le_right}
use Rattle.cost.specs.Ends.{largest_sum}
use Rattle.cost.specs.Laws.{Ops}
use Rattle.cost.specs.declared.fee.Fee.{Fee}

-- an amount, or the largest where the amount is beyond it
abbrev pub fee : ℕ → Fee
fee n = record { amount = min n largest_sum; fits = min-le_right n largest_sum }

abbrev pub plus : Fee → ℕ → Fee
plus v w = fee (v.amount + w)

abbrev pub sum_ops : Ops Fee
sum_ops = record { start = fee 0; span = plus; conversion = plus; at_most = λ a b. nat_le a.amount b.amount }

-- printed as a number
abbrev pub fee_text : Fee → List ℕ
fee_text v = decimal v.amount
