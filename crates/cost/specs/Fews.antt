-- FEW: conversions counted first, then the tariffs added up.
use Rattle.std.specs.Prelude.{◌≡◌, ℕ, ◌+◌, min, Bool, if◌then◌else◌, ◌&&◌, ◌||◌, List, ◌++◌, codes, decimal, ◌==◌, nat_le, nat_lt}
use Rattle.std.proofs.Common.{arith}
use Rattle.std.proofs.Math.Nat.{min-le_right}
use Rattle.std.proofs.lemmas.Bool.Decides.{nat_tests}
use Rattle.cost.specs.Ends.{largest_sum, largest_count}
use Rattle.cost.specs.Laws.{Ops}
use Rattle.cost.specs.Sums.{fee, plus, fee_text}
use Rattle.cost.specs.declared.fee.Fee.{Fee}
use Rattle.cost.specs.declared.tally.Tally.{Tally}

-- the sum beside a count: the largest where the count has stopped
abbrev pub sum_beside : ℕ → ℕ → ℕ
sum_beside n x = if nat_lt n largest_count then x else largest_sum

-- where the count has stopped, so has the sum
pub sum_beside_stops : (n x : ℕ) → min n largest_count ≡ largest_count → min (sum_beside n x) largest_sum ≡ largest_sum
sum_beside_stops n x e = grind (arith, nat_tests)

-- so many conversions and such a sum, both stopped together
abbrev pub tally : ℕ → Fee → Tally
tally n s = record {
  conversions = min n largest_count;
  sum = fee (sum_beside n s.amount);
  counted = min-le_right n largest_count;
  stopped = sum_beside_stops n s.amount;
}

-- a tariff more
abbrev pub few_span : Tally → ℕ → Tally
few_span v w = tally v.conversions (plus v.sum w)

-- a tariff more, and a conversion more
abbrev pub few_conversion : Tally → ℕ → Tally
few_conversion v w = tally (v.conversions + 1) (plus v.sum w)

-- fewer conversions, or as many and a sum at most the other's
abbrev pub few_at_most : Tally → Tally → Bool
few_at_most a b =
    nat_lt a.conversions b.conversions || (a.conversions == b.conversions && nat_le a.sum.amount b.sum.amount)

abbrev pub few_ops : Ops Tally
few_ops = record { start = tally 0 (fee 0); span = few_span; conversion = few_conversion; at_most = few_at_most }

-- printed as the count, a plus sign and the sum
abbrev pub tally_text : Tally → List ℕ
tally_text v = decimal v.conversions ++ (codes "+" ++ fee_text v.sum)
