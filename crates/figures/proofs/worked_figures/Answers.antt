use Rattle.std.proofs.Common.{◌≡◌, rules, refl}
use Rattle.cost.specs.Sums.{fee, sum_ops}
use Rattle.cost.specs.Fews.{tally, few_ops}
use Rattle.cost.specs.Worsts.{worst_ops}
use Rattle.pricing.specs.Pricing.{with_shut}
use Rattle.figures.specs.Figures.{IsTally}
use Rattle.figures.specs.Sample.{all_open, by_spans}
use Rattle.figures.proofs.Ways.{by_1, by_2, fare_carried, each_least, none_from_3}
use Rattle.figures.proofs.worked_figures.Goals as goal

pub returns : goal.returns
returns c = record {
  least_sum = each_least (by_spans all_open).fare (fare_carried all_open) sum_ops (λ v. v.amount ≡ 6) by_1 (search rules) refl (λ h. (refl, λ l. refl)) (λ h. (refl, λ l. cc));
  fewest_conversions = each_least (by_spans all_open).fare (fare_carried all_open) few_ops (IsTally 0 9) by_2 (search rules) refl (λ h. (refl, λ l. cc)) (λ h. (refl, λ l. (refl, refl)));
  least_worst = each_least (by_spans all_open).fare (fare_carried all_open) worst_ops (λ v. v ≡ 3) by_1 (search rules) refl (λ h. (refl, λ l. refl)) (λ h. (refl, λ l. cc));
  least_sum_when_shut = each_least (by_spans (with_shut 0 all_open)).fare (fare_carried (with_shut 0 all_open)) sum_ops (λ v. v.amount ≡ 9) by_2 (search rules) refl (λ h. cc) (λ h. (refl, λ l. refl));
  none_back = none_from_3 (by_spans all_open).fare (fare_carried all_open);
  sum_goes_on = ((fee 4294967290, refl), λ v e. rw e refl);
  sum_stops = ((fee 4294967290, refl), λ v e. rw e refl);
  few_goes_on = ((tally 65533 (fee 7), (refl, refl)), λ v e. rw (e.0, e.1) (refl, refl));
  few_stops = ((tally 65534 (fee 7), (refl, refl)), λ v e. rw e.0 (refl, refl));
  written = refl;
  written_text = refl;
  told = refl;
  told_text = refl;
}
