-- A kind of cost that does not grow with the tariffs: what each is short of the largest, added up.
use Rattle.std.specs.Prelude.{ℕ, ◌-◌, nat_le}
use Rattle.std.proofs.Common.{arith}
use Rattle.std.proofs.lemmas.Bool.Decides.{nat_tests}
use Rattle.cost.specs.Laws.{Ops, Laws, laws_of_step, total_by, transitive_by}
use Rattle.cost.specs.Sums.{fee, plus}
use Rattle.cost.specs.declared.fee.Fee.{Fee}

abbrev pub short : Fee → ℕ → Fee
short v w = plus v (65534 - w)

abbrev pub upside_ops : Ops Fee
upside_ops = record { start = fee 0; span = short; conversion = short; at_most = λ a b. nat_le a.amount b.amount }

pub upside_laws : Laws upside_ops
upside_laws = laws_of_step (total_by (λ v. v.amount)) (transitive_by (λ v. v.amount)) (λ a b w h e. grind (arith, nat_tests)) (λ a w h. grind (arith, nat_tests))
