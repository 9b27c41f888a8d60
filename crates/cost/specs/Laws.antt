-- What a kind of cost is, and the four laws that it shows.
use Rattle.std.specs.Prelude.{◌≡◌, ℕ, ◌<◌, ◌≤◌, Bool, true, ◌||◌, nat_le}
use Rattle.std.proofs.Common.{arith}
use Rattle.std.proofs.lemmas.Bool.Decides.{nat_tests}
use Rattle.network.specs.Tariffs.{absent}

-- a start value, the value after a step at a tariff, and whether one value is at most another
pub record Ops (V : Type 0) : Type 0 where
  pub start : V
  pub span : V → ℕ → V
  pub conversion : V → ℕ → V
  pub at_most : V → V → Bool

-- of two values, one is at most the other
abbrev pub IsTotal : {V : Type 0} → (V → V → Bool) → Type 0
IsTotal {V} at_most = (a b : V) → (at_most a b || at_most b a) ≡ true

abbrev pub IsTransitive : {V : Type 0} → (V → V → Bool) → Type 0
IsTransitive {V} at_most = (a b c : V) → at_most a b ≡ true → at_most b c ≡ true → at_most a c ≡ true

-- a step at a tariff keeps the order
abbrev pub IsMonotone : {V : Type 0} → (V → V → Bool) → (V → ℕ → V) → Type 0
IsMonotone {V} at_most step = (a b : V) (w : ℕ) → w < absent → at_most a b ≡ true → at_most (step a w) (step b w) ≡ true

-- no step at a tariff makes a value less
abbrev pub IsUpward : {V : Type 0} → (V → V → Bool) → (V → ℕ → V) → Type 0
IsUpward {V} at_most step = (a : V) (w : ℕ) → w < absent → at_most a (step a w) ≡ true

pub record Laws {V : Type 0} (o : Ops V) : Type 0 where
  pub total : IsTotal o.at_most
  pub transitive : IsTransitive o.at_most
  pub monotone : IsMonotone o.at_most o.span × IsMonotone o.at_most o.conversion
  pub upward : IsUpward o.at_most o.span × IsUpward o.at_most o.conversion

-- a step at a larger tariff makes no value less than at a smaller
abbrev pub IsGrowing : {V : Type 0} → (V → V → Bool) → (V → ℕ → V) → Type 0
IsGrowing {V} at_most step = (a : V) (w x : ℕ) → w ≤ x → x < absent → at_most (step a w) (step a x) ≡ true

-- what a kind may show beside: it grows with the tariffs
abbrev pub Grows : {V : Type 0} → Ops V → Type 0
Grows o = IsGrowing o.at_most o.span × IsGrowing o.at_most o.conversion

-- values of which each is compared by a number, its key
pub total_by : {V : Type 0} (key : V → ℕ) → IsTotal (λ a b. nat_le (key a) (key b))
total_by key a b = grind (arith, nat_tests)

pub transitive_by : {V : Type 0} (key : V → ℕ) → IsTransitive (λ a b. nat_le (key a) (key b))
transitive_by key a b c p q = grind (arith, nat_tests)

-- where spans and conversions cost alike, the laws of one step are those of both
pub laws_of_step : {V : Type 0} {start : V} {step : V → ℕ → V} {at_most : V → V → Bool} → IsTotal at_most → IsTransitive at_most → IsMonotone at_most step → IsUpward at_most step → Laws (record { start = start; span = step; conversion = step; at_most = at_most })
laws_of_step total transitive monotone upward = record { total = total; transitive = transitive; monotone = (monotone, monotone); upward = (upward, upward) }
