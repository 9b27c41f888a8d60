-- SUM shows the four laws, and grows with the tariffs.
use Rattle.std.proofs.Common.{arith}
use Rattle.std.proofs.lemmas.Bool.Decides.{nat_tests}
use Rattle.cost.specs.Laws.{Laws, Grows, laws_of_step, total_by, transitive_by}
use Rattle.cost.specs.Sums.{sum_ops}

pub sum_laws : Laws sum_ops
sum_laws = laws_of_step (total_by (λ v. v.amount)) (transitive_by (λ v. v.amount)) (λ a b w h e. grind (arith, nat_tests)) (λ a w h. grind (arith, nat_tests))

pub sum_grows : Grows sum_ops
sum_grows = (λ a w x l h. grind (arith, nat_tests), λ a w x l h. grind (arith, nat_tests))
