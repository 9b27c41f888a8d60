-- What a run of charges comes to, in numbers.
use Rattle.std.proofs.Common.{◌≡◌, List, [], ◌∷◌, fold, refl, ap, ◌∙◌}
use Rattle.cost.specs.Laws.{Ops}
use Rattle.cost.specs.Charges.{after, after_all}
use Rattle.cost.specs.Numbers.{Numbering, in_numbers}
use Rattle.cost.specs.declared.charge.Charge.{Charge}
use Rattle.cost.specs.declared.charge.Charge.TheVariants.{Span, Conversion}

module _ {V : Type 0} (c : Numbering V) (o : Ops V) where
  pub after_numbered : (v : V) (x : Charge) → after (in_numbers c o) (c.number v) x ≡ c.number (after o v x)
  after_numbered v (Span w) = ap (λ u. c.number (o.span u w)) (c.back v)
  after_numbered v (Conversion w) = ap (λ u. c.number (o.conversion u w)) (c.back v)

  pub all_numbered : (v : V) (xs : List Charge) → after_all (in_numbers c o) (c.number v) xs ≡ c.number (after_all o v xs)
  all_numbered v [] = refl
  all_numbered v (x ∷ xs) = ap (λ n. fold (after (in_numbers c o)) n xs) (after_numbered v x) ∙ all_numbered (after o v x) xs
