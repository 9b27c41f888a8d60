-- A kind of cost that is no other crate's: spans at 1 and conversions at 100, whatever their tariffs.
use Rattle.std.proofs.Common.{arith}
use Rattle.std.proofs.lemmas.Bool.Decides.{nat_tests}
use Rattle.std.specs.Prelude.{nat_le}
use Rattle.cost.specs.Laws.{Ops, Laws, Grows, total_by, transitive_by}
use Rattle.cost.specs.Sums.{fee, plus}
use Rattle.cost.specs.declared.fee.Fee.{Fee}

abbrev pub toll_ops : Ops Fee
toll_ops = record { start = fee 5000; span = λ v w. plus v 1; conversion = λ v w. plus v 100; at_most = λ a b. nat_le a.amount b.amount }

pub toll_laws : Laws toll_ops
toll_laws = record {
  total = total_by (λ v. v.amount);
  transitive = transitive_by (λ v. v.amount);
  monotone = (λ a b w h e. grind (arith, nat_tests), λ a b w h e. grind (arith, nat_tests));
  upward = (λ a w h. grind (arith, nat_tests), λ a w h. grind (arith, nat_tests));
}

pub toll_grows : Grows toll_ops
toll_grows = (λ a w x l h. grind (arith, nat_tests), λ a w x l h. grind (arith, nat_tests))
