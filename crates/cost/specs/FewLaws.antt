-- FEW shows the four laws, and grows with the tariffs.
use Rattle.std.specs.Prelude.{ℕ, ◌+◌}
use Rattle.std.proofs.Common.{arith}
use Rattle.std.proofs.Math.Nat.{add-zero}
use Rattle.std.proofs.lemmas.Bool.Decides.{nat_tests}
use Rattle.cost.specs.Laws.{Laws, Grows, IsMonotone, IsUpward}
use Rattle.cost.specs.Sums.{plus}
use Rattle.cost.specs.Fews.{tally, few_at_most, few_ops}

-- however many conversions a step counts
monotone : (k : ℕ) → IsMonotone few_at_most (λ v w. tally (v.conversions + k) (plus v.sum w))
monotone k a b w h e = grind (arith, nat_tests)

upward : (k : ℕ) → IsUpward few_at_most (λ v w. tally (v.conversions + k) (plus v.sum w))
upward k a w h = grind (arith, nat_tests)

pub few_laws : Laws few_ops
few_laws = record {
  total = λ a b. grind (arith, nat_tests);
  transitive = λ a b c p q. grind (arith, nat_tests);
  monotone = (simp add-zero at (monotone 0), monotone 1);
  upward = (simp add-zero at (upward 0), upward 1);
}

pub few_grows : Grows few_ops
few_grows = (λ a w x l h. grind (arith, nat_tests), λ a w x l h. grind (arith, nat_tests))
