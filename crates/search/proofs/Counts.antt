-- Arrivals in a list, and how many of them pass a test: where one does, some place has it. Left.antt asks
-- this of the list of all arrivals of a network.
use Rattle.std.proofs.Common.{◌≡◌, ℕ, suc, ◌+◌, ◌<◌, ◌≤◌, Bool, true, false, cond, List, [], ◌∷◌, length, slice_index_or, refl, subst, arith}
use Rattle.std.specs.List.{count_by}
use Rattle.std.proofs.lemmas.List.Sums.{sum_by-cons}
use Rattle.search.specs.declared.arrival.Arrival.{Arrival}

-- what stands at a place of a list of arrivals
abbrev nowhere : Arrival
nowhere = record { node = 0; channel = 0 }

abbrev pub at : List Arrival → ℕ → Arrival
at xs i = slice_index_or xs i nowhere

module _ (p : Arrival → Bool) where
  -- the count of a list that begins with x
  abbrev begins : Arrival → List Arrival → ℕ
  begins x xs = cond (p x) 1 0 + count_by p xs

  counts : (x : Arrival) (xs : List Arrival) → count_by p (x ∷ xs) ≡ begins x xs
  counts x xs = sum_by-cons (λ z. cond (p z) 1 0) x xs

  -- one passes
  pub one_passes : (xs : List Arrival) → 1 ≤ count_by p xs → (j : ℕ) × (j < length xs) × (p (at xs j) ≡ true)
  one_passes [] h = absurd (omega (arith, h))
  one_passes (x ∷ xs) h = go (p x) refl (subst (λ (n : ℕ). 1 ≤ n) (counts x xs) h) (one_passes xs)
    where
      go : (b : Bool) → p x ≡ b → 1 ≤ cond b 1 0 + count_by p xs → (1 ≤ count_by p xs → (j : ℕ) × (j < length xs) × (p (at xs j) ≡ true)) → (j : ℕ) × (j < suc (length xs)) × (p (at (x ∷ xs) j) ≡ true)
      go true e k rest = (0, omega arith, e)
      go false e k rest = let r = rest (omega (arith, k)) in let l = r.1 in (suc r.0, omega (arith, l), r.2)
