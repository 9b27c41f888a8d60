-- WORST shows the four laws, and grows with the tariffs.
use Rattle.std.proofs.Common.{arith}
use Rattle.std.proofs.lemmas.Bool.Decides.{nat_tests}
use Rattle.cost.specs.Laws.{Laws, Grows, laws_of_step, total_by, transitive_by}
use Rattle.cost.specs.Worsts.{worst_ops}

pub worst_laws : Laws worst_ops
worst_laws = laws_of_step (total_by (λ v. v)) (transitive_by (λ v. v)) (λ a b w h e. grind (arith, nat_tests)) (λ a w h. grind (arith, nat_tests))

pub worst_grows : Grows worst_ops
worst_grows = (λ a w x l h. grind (arith, nat_tests), λ a w x l h. grind (arith, nat_tests))
