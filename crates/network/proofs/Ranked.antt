-- What a row by rate tells.
use Rattle.std.proofs.Common.{Option, Some, None, ◌≡◌, ℕ, zero, suc, ◌+◌, ◌<◌, ◌≤◌, Bool, true, false, cond, eqb, List, [], ◌∷◌, ◌++◌, length, get_or, refl, ap, ◌∙◌, subst, arith}
use Rattle.std.specs.List.{All, Contains, count_by, range_with_len}
use Rattle.std.specs.Option.{unwrap_or, IfSome}
use Rattle.std.proofs.lemmas.Bool.{eq-eqb, eqb-true}
use Rattle.std.proofs.lemmas.Bool.Decides.{nat_tests}
use Rattle.std.proofs.lemmas.List.{length-append, get_or_at, get_or-append-add}
use Rattle.std.proofs.lemmas.List.Sums.{sum_by-cons}
use Rattle.std.proofs.lemmas.List.Elements.{Contains-get_or, All-contains}
use Rattle.std.proofs.lemmas.List.FromFn.{length-range_with_len, get_or-range_with_len}
use Rattle.network.specs.Tariffs.{absent, tariff}
use Rattle.network.specs.Rates.{ByRate}

further : (a x : ℕ) (xs : List ℕ) → Contains xs x → Contains (a ∷ xs) x
further a x xs h = (suc h.0, omega (arith, h.1), h.2)

found : (a x : ℕ) (xs : List ℕ) (b : Bool) → eqb a x ≡ b → 0 < cond b 1 0 + count_by (λ y. eqb y x) xs → (0 < count_by (λ y. eqb y x) xs → Contains xs x) → Contains (a ∷ xs) x
found a x xs true e h rest = (0, omega arith, eqb-true a x e)
found a x xs false e h rest = further a x xs (rest (omega (arith, h)))

Contains-from_count : (xs : List ℕ) (x : ℕ) → 0 < count_by (λ y. eqb y x) xs → Contains xs x
Contains-from_count [] x h = absurd (omega (arith, h))
Contains-from_count (a ∷ xs) x h =
    let one = sum_by-cons (λ (y : ℕ). cond (eqb y x) 1 0) a xs in
    found a x xs (eqb a x) refl (omega (arith, h, one)) (Contains-from_count xs x)

count-from_Contains : (xs : List ℕ) (x k : ℕ) → k < length xs → get_or xs k x ≡ x → 0 < count_by (λ y. eqb y x) xs
count-from_Contains [] x k h e = absurd (omega (arith, h))
count-from_Contains (a ∷ xs) x zero h e =
    let one = sum_by-cons (λ (y : ℕ). cond (eqb y x) 1 0) a xs in
    let here : cond (eqb a x) 1 0 ≡ 1 = ap {B = ℕ} (λ b. cond b 1 0) (eq-eqb a x e) in
    omega (arith, one, here)
count-from_Contains (a ∷ xs) x (suc k) h e =
    let one = sum_by-cons (λ (y : ℕ). cond (eqb y x) 1 0) a xs in
    omega (arith, one, count-from_Contains xs x k (omega (arith, h)) e)

-- the numbers from 0 on
pub All-range_with_len : (n : ℕ) → All (λ e. e < n) (range_with_len 0 n)
All-range_with_len n k d h =
    let long = length-range_with_len 0 n in
    omega (arith, long, get_or-range_with_len 0 n k d (omega (arith, long, h)))

pub Contains-range_with_len : (n e : ℕ) → e < n → Contains (range_with_len 0 n) e
Contains-range_with_len n e h = (e, omega (arith, length-range_with_len 0 n), omega (arith, get_or-range_with_len 0 n e e h))

module _ (rate : ℕ → ℕ) (numbers row : List ℕ) (by : ByRate rate numbers row) where
  -- a number is on the row just where it is among the numbers
  pub on_row : (x : ℕ) → Contains numbers x → Contains row x
  on_row x h = Contains-from_count row x (omega (arith, by.same (λ y. eqb y x), count-from_Contains numbers x h.0 h.1 h.2))

  pub off_row : (x : ℕ) → Contains row x → Contains numbers x
  off_row x h = Contains-from_count numbers x (omega (arith, by.same (λ y. eqb y x), count-from_Contains row x h.0 h.1 h.2))

  -- what holds of the numbers holds of those on the row
  pub All-row : (P : ℕ → Type 0) → All P numbers → All P row
  All-row P all k d h = All-contains P numbers (get_or row k d) all (off_row (get_or row k d) (Contains-get_or row k d h))

  -- whatever stands behind a number has at least its rate
  pub rate_behind : (xs ys : List ℕ) (x : ℕ) → row ≡ xs ++ x ∷ ys → All (λ y. rate x ≤ rate y) ys
  rate_behind xs ys x e k d h =
      let i = length xs in
      let j = length xs + suc k in
      let long = ap length e ∙ length-append xs (x ∷ ys) in
      let at : get_or row i d ≡ x = ap (λ l. get_or l i d) e ∙ get_or_at xs x ys d i refl in
      let then : get_or row j d ≡ get_or ys k d = ap (λ l. get_or l j d) e ∙ get_or-append-add xs (x ∷ ys) (suc k) d in
      subst (λ a. rate a ≤ rate (get_or ys k d)) at (subst (λ b. rate (get_or row i d) ≤ rate b) then (by.rising i j d (omega arith) (omega (arith, long, h))))

-- the rate of an entry: what is absent, or beyond it, has no tariff
abbrev pub rated : ℕ → ℕ
rated m = unwrap_or (tariff m) absent

rated_rise : (m k : ℕ) → m ≤ k → rated m ≤ rated k
rated_rise m k h = grind (arith, nat_tests)

-- a row by what a table has is a row by rate
pub ByRate-rated : (mark rate : ℕ → ℕ) (numbers numbers' row row' : List ℕ) → ((e : ℕ) → rate e ≡ rated (mark e)) → numbers ≡ numbers' → row ≡ row' → ByRate mark numbers row → ByRate rate numbers' row'
ByRate-rated mark rate numbers numbers' row row' same en er by =
    subst (λ ns. ByRate rate ns row') en (subst (ByRate rate numbers) er (record {
      same = by.same;
      rising = λ i j d h l. omega (arith, same (get_or row i d), same (get_or row j d), rated_rise (mark (get_or row i d)) (mark (get_or row j d)) (by.rising i j d h l));
    }))

pub ByRate-none : (rate : ℕ → ℕ) (numbers : List ℕ) → [] ≡ numbers → ByRate rate numbers []
ByRate-none rate numbers e = record { same = λ p. ap (count_by p) e; rising = λ i j d h l. absurd (omega (arith, l)) }

-- a rate below absent is a tariff, and absent is none
pub rate_is : (o : Option ℕ) → IfSome o (λ v. v < absent) → unwrap_or o absent < absent → o ≡ Some (unwrap_or o absent)
rate_is None below h = absurd (omega (arith, h))
rate_is (Some v) below h = refl

pub absent_is : (o : Option ℕ) → IfSome o (λ v. v < absent) → unwrap_or o absent ≡ absent → o ≡ None
absent_is None below h = refl
absent_is (Some v) below h = absurd (omega (arith, h, below))
