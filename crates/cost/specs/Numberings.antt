-- The three kinds of cost, told as numbers.
use Rattle.std.specs.Prelude.{◌≡◌, ℕ, ◌+◌, ◌*◌, ◌/◌, ◌%◌, ◌^◌, ◌≤◌, min, refl}
use Rattle.std.proofs.Common.{arith, ap₂, subst, ◌∙◌}
use Rattle.std.proofs.Math.Bridge.{le_prop}
use Rattle.std.proofs.Math.Nat.{ℕ_set}
use Rattle.std.proofs.lemmas.Bool.Decides.{nat_tests}
use Rattle.cost.specs.Ends.{largest_sum, largest_count}
use Rattle.cost.specs.Numbers.{Numbering}
use Rattle.cost.specs.Sums.{fee}
use Rattle.cost.specs.Fews.{sum_beside, tally}
use Rattle.cost.specs.declared.fee.Fee.{Fee}
use Rattle.cost.specs.declared.tally.Tally.{Tally}

abbrev fee_of : (n : ℕ) → n ≤ largest_sum → Fee
fee_of n fits = record { amount = n; fits = fits }

-- fees of one amount are the same
same_fee : (m n : ℕ) (p : m ≤ largest_sum) (q : n ≤ largest_sum) → m ≡ n → fee_of m p ≡ fee_of n q
same_fee m n p q e = subst (λ k. (h : k ≤ largest_sum) → fee_of m p ≡ fee_of k h) e (λ h i. fee_of m (le_prop p h i)) q

pub fee_back : (v : Fee) → fee v.amount ≡ v
fee_back v = same_fee (min v.amount largest_sum) v.amount (fee v.amount).fits v.fits (let h = v.fits in omega arith)

-- by SUM, the amount
abbrev pub fee_numbers : Numbering Fee
fee_numbers = record { number = λ v. v.amount; value = fee; back = fee_back }

-- by WORST, the tariff itself
abbrev pub tariff_numbers : Numbering ℕ
tariff_numbers = record { number = λ v. v; value = λ v. v; back = λ v. refl }

abbrev tally_of : (n : ℕ) (s : Fee) → n ≤ largest_count → (n ≡ largest_count → s.amount ≡ largest_sum) → Tally
tally_of n s counted stopped = record { conversions = n; sum = s; counted = counted; stopped = stopped }

-- tallies of one count and one sum are the same
same_tally : (m n : ℕ) (s t : Fee) (p : m ≤ largest_count) (q : n ≤ largest_count) (f : m ≡ largest_count → s.amount ≡ largest_sum) (g : n ≡ largest_count → t.amount ≡ largest_sum) → m ≡ n → s ≡ t → tally_of m s p f ≡ tally_of n t q g
same_tally m n s t p q f g e d =
    subst (λ k. (h : k ≤ largest_count) (l : k ≡ largest_count → t.amount ≡ largest_sum) → tally_of m s p f ≡ tally_of k t h l) e
    (λ h. subst (λ (u : Fee). (l : m ≡ largest_count → u.amount ≡ largest_sum) → tally_of m s p f ≡ tally_of m u h l) d
    (λ l i. tally_of m s (le_prop p h i) (λ c. ℕ_set s.amount largest_sum (f c) (l c) i))) q g

abbrev tally_number : Tally → ℕ
tally_number v = v.conversions * 2 ^ 32 + v.sum.amount

count_back : (n k : ℕ) → k ≤ largest_sum → (n * 2 ^ 32 + k) / 2 ^ 32 ≡ n
count_back n k h = omega arith

sum_back : (n k : ℕ) → k ≤ largest_sum → (n * 2 ^ 32 + k) % 2 ^ 32 ≡ k
sum_back n k h = omega arith

abbrev tally_value : ℕ → Tally
tally_value k = tally (k / 2 ^ 32) (fee (k % 2 ^ 32))

tally_there : (v : Tally) → tally v.conversions (fee v.sum.amount) ≡ v
tally_there v =
    let count : min v.conversions largest_count ≡ v.conversions = let h = v.counted in omega arith in
    let amount : min (sum_beside v.conversions (min v.sum.amount largest_sum)) largest_sum ≡ v.sum.amount = beside v.conversions v.sum.amount v.sum.fits v.counted v.stopped in
    let there = tally v.conversions (fee v.sum.amount) in
    same_tally there.conversions v.conversions there.sum v.sum there.counted v.counted there.stopped v.stopped count (same_fee there.sum.amount v.sum.amount there.sum.fits v.sum.fits amount)
  where
    beside : (n k : ℕ) → k ≤ largest_sum → n ≤ largest_count → (n ≡ largest_count → k ≡ largest_sum) → min (sum_beside n (min k largest_sum)) largest_sum ≡ k
    beside n k fits counted stopped = grind (arith, nat_tests)

pub tally_back : (v : Tally) → tally_value (tally_number v) ≡ v
tally_back v = ap₂ (λ n k. tally n (fee k)) (count_back v.conversions v.sum.amount v.sum.fits) (sum_back v.conversions v.sum.amount v.sum.fits) ∙ tally_there v

-- by FEW, the conversions before the sum's 32 bits
abbrev pub tally_numbers : Numbering Tally
tally_numbers = record { number = tally_number; value = tally_value; back = tally_back }
