-- The figures of the sample network, and of costs and labels beside it.
use Rattle.std.specs.Prelude.{◌≡◌, ℕ, ℤ, pos, negsuc, Ok, codes}
use Rattle.network.specs.declared.spacing.Spacing.{Spacing}
use Rattle.network.specs.declared.spacing.Spacing.TheVariants.{Ghz50}
use Rattle.label.specs.Labels.{read, write}
use Rattle.label.specs.Texts.{label_text}
use Rattle.label.specs.declared.Label.{Label}
use Rattle.label.specs.declared.Reading.{Reading}
use Rattle.cost.specs.Charges.{after}
use Rattle.cost.specs.declared.charge.Charge.TheVariants.{Span, Conversion}
use Rattle.cost.specs.declared.fee.Fee.{Fee}
use Rattle.cost.specs.declared.tally.Tally.{Tally}
use Rattle.cost.specs.Sums.{sum_ops}
use Rattle.cost.specs.Fews.{few_ops}
use Rattle.cost.specs.Worsts.{worst_ops}
use Rattle.semilightpath.specs.Cheapest.{IsLeastCost, HasNone}
use Rattle.pricing.specs.Pricing.{with_shut}
use Rattle.figures.specs.Sample.{all_open, by_spans}

abbrev pub label : ℕ → Label
label bits = record { bits = bits }

abbrev pub reading : Spacing → ℤ → ℕ → Reading
reading spacing n centre = record { spacing = spacing; n = n; centre = centre }

-- there is a value that is P, and each one that is P is Q
abbrev pub EachIs : {V : Type 0} → (V → Type 0) → (V → Type 0) → Type 0
EachIs {V} P Q = ((v : V) × P v) × ((v : V) → P v → Q v)

-- so many conversions and such a sum, in plain numbers
abbrev pub IsTally : ℕ → ℕ → Tally → Type 0
IsTally n s v = (v.conversions ≡ n) × (v.sum.amount ≡ s)

pub record WorkedFigures : Type 0 where
  -- the least costs from 0 to 3 while all is free and open
  pub least_sum : EachIs (IsLeastCost sum_ops (by_spans all_open) 0 3) (λ v. v.amount ≡ 6)
  pub fewest_conversions : EachIs (IsLeastCost few_ops (by_spans all_open) 0 3) (IsTally 0 9)
  pub least_worst : EachIs (IsLeastCost worst_ops (by_spans all_open) 0 3) (λ v. v ≡ 3)
  -- the same by SUM with span 0 shut, as for a trial
  pub least_sum_when_shut : EachIs (IsLeastCost sum_ops (by_spans (with_shut 0 all_open)) 0 3) (λ v. v.amount ≡ 9)
  -- and the other way
  pub none_back : HasNone (by_spans all_open) 3 0
  -- where values stop, and the last ones before
  pub sum_goes_on : EachIs (λ (v : Fee). v.amount ≡ 4294967290) (λ v. (after sum_ops v (Span 4)).amount ≡ 4294967294)
  pub sum_stops : EachIs (λ (v : Fee). v.amount ≡ 4294967290) (λ v. (after sum_ops v (Span 9)).amount ≡ 4294967295)
  pub few_goes_on : EachIs (IsTally 65533 7) (λ v. IsTally 65534 7 (after few_ops v (Conversion 0)))
  pub few_stops : EachIs (IsTally 65534 7) (λ v. IsTally 65535 4294967295 (after few_ops v (Conversion 0)))
  -- code 1 and n -1 written, and a label of code 2 read
  pub written : write 1 (negsuc 0) ≡ Ok (label 570490879)
  pub written_text : label_text 570490879 ≡ codes "2200FFFF"
  pub told : read 603979779 ≡ Ok (reading Ghz50 (pos 3) 193250000)
  pub told_text : label_text 603979779 ≡ codes "24000003"
