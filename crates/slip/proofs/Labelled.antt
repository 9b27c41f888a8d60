-- Every channel of a network has a label.
use Rattle.std.specs.Int.{w16}
use Rattle.std.specs.Option.{unwrap_or}
use Rattle.std.proofs.Common.{◌≡◌, ℕ, ◌≤◌, true, List, take, ℤ, pos, Ok, Result, Option, refl, sym, ap, ◌∙◌, inl, inr, arith, SFits, to_z, of_z, nat_lt}
use Rattle.std.proofs.lemmas.Bool.{cases_lt, lt-ltb, le-ltb}
use Rattle.std.proofs.lemmas.Bool.Decides.{nat_tests}
use Rattle.std.proofs.lemmas.Int.{to_z-of_z, ints}
use Rattle.std.proofs.lemmas.List.{get_or-take, get_or_past}
use Rattle.std.proofs.Math.ListN.{length-take}
use Rattle.fault.specs.declared.label.LabelFault.{LabelFault}
use Rattle.network.specs.Extents.{given}
use Rattle.network.specs.Limits.{in_range, number_at, Ranged}
use Rattle.network.specs.Spacings.{coded, code_of}
use Rattle.network.specs.declared.counts.Counts.{Counts}
use Rattle.network.specs.declared.spacing.Spacing.{Spacing}
use Rattle.network.specs.declared.spacing.Spacing.TheVariants.{Ghz100, Ghz50, Ghz25, Ghz12_5}
use Rattle.label.specs.Labels.{write, label_bits}
use Rattle.label.specs.declared.Label.{Label}

-- a spacing's code is one
code_coded : (s : Spacing) → coded (code_of s) ≡ true
code_coded Ghz100 = refl
code_coded Ghz50 = refl
code_coded Ghz25 = refl
code_coded Ghz12_5 = refl

-- what is written of such a code and a number in range is their label
known : (code : ℕ) (z : ℤ) (r : Result Label LabelFault) → coded code ≡ true → in_range z ≡ true → r ≡ write code z → r ≡ Ok (record { bits = label_bits code z })
known code z r c i e = e ∙ rw (c, i)

module _ (n : Counts) (numbers : List ℤ) (ranged : Ranged n numbers) (c : ℕ) where
  past_end : n.channels ≤ c → number_at (take n.channels numbers) c ≡ pos 0
  past_end past = get_or_past (take n.channels numbers) c (pos 0) (omega (arith, length-take n.channels numbers))

  -- past the last channel a number is read as 0
  told : unwrap_or (given (nat_lt c n.channels) (number_at (take n.channels numbers) c)) (pos 0) ≡ number_at (take n.channels numbers) c
  told = elim (cases_lt c n.channels) [
    | inl low ↦ rw (lt-ltb c n.channels low)
    | inr past ↦ rw (le-ltb c n.channels past) (sym (past_end past))
  ]

  within : in_range (number_at (take n.channels numbers) c) ≡ true
  within = elim (cases_lt c n.channels) [
    | inl low ↦ ap in_range (get_or-take n.channels numbers c (pos 0) low) ∙ ranged c low
    | inr past ↦ ap in_range (past_end past)
  ]

  -- the label of a channel is written
  pub labelled : {s t : Spacing} {code : ℕ} {o : Option ℤ} {z : ℤ} {r : Result Label LabelFault} → t ≡ s → code ≡ code_of t
      → o ≡ given (nat_lt c n.channels) (number_at (take n.channels numbers) c) → z ≡ unwrap_or o (pos 0)
      → r ≡ write code (to_z w16 (of_z w16 z)) → r ≡ Ok (record { bits = label_bits (code_of s) (number_at (take n.channels numbers) c) })
  labelled {s} {t} {code} {o} {z} {r} spacing k option number e =
      let same : z ≡ number_at (take n.channels numbers) c = number ∙ ap (λ x. unwrap_or x (pos 0)) option ∙ told in
      let right : in_range z ≡ true = ap in_range same ∙ within in
      let fits : SFits w16 z = grind (arith, ints, nat_tests) in
      let is : code ≡ code_of s = k ∙ ap code_of spacing in
      let coded_so : coded code ≡ true = ap coded is ∙ code_coded s in
      known code z r coded_so right (e ∙ ap (write code) (to_z-of_z w16 z fits)) ∙ rw (is, same)
