-- A kind of cost that is no other crate's: SUM, from just under where it stops.
use Rattle.std.specs.Prelude.{ℕ, nat_le}
use Rattle.std.proofs.Common.{arith}
use Rattle.std.proofs.lemmas.Bool.Decides.{nat_tests}
use Rattle.cost.specs.Laws.{Ops, Laws, Grows, laws_of_step, total_by, transitive_by}
use Rattle.cost.specs.Sums.{fee, plus}
use Rattle.cost.specs.declared.fee.Fee.{Fee}

abbrev pub late_start : ℕ
late_start = 4294900000

abbrev pub late_ops : Ops Fee
late_ops = record { start = fee late_start; span = plus; conversion = plus; at_most = λ a b. nat_le a.amount b.amount }

pub late_laws : Laws late_ops
late_laws = laws_of_step (total_by (λ v. v.amount)) (transitive_by (λ v. v.amount)) (λ a b w h e. grind (arith, nat_tests)) (λ a w h. grind (arith, nat_tests))

pub late_grows : Grows late_ops
late_grows = (λ a w x l h. grind (arith, nat_tests), λ a w x l h. grind (arith, nat_tests))
