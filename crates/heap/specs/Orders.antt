-- Orders on numbers, by their keys.
use Rattle.std.specs.Prelude.{◌≡◌, ℕ, Bool, true, false}

-- any two compare, and the order chains
pub record IsOrder {K : Type 0} (most : K → K → Bool) : Type 0 where
  pub total : (a b : K) → most a b ≡ false → most b a ≡ true
  pub transitive : (a b c : K) → most a b ≡ true → most b c ≡ true → most a c ≡ true

-- the order of the numbers whose keys are so ordered
abbrev pub by_key : {K : Type 0} → (ℕ → K) → (K → K → Bool) → ℕ → ℕ → Bool
by_key key most a b = most (key a) (key b)
