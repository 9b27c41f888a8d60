-- A heap of numbers below a size has no more elements than that.
use Rattle.std.proofs.Common.{◌≡◌, ℕ, zero, suc, ◌<◌, ◌≤◌, Bool, true, false, List, [], ◌∷◌, length, ◌||◌, ◌==◌, refl, sym, ap, subst, arith}
use Rattle.std.proofs.lemmas.Bool.{true≢false}
use Rattle.std.proofs.lemmas.Bool.Decides.{nat_tests}
use Rattle.std.specs.List.{AllByRecursion, IsDistinct, list_any}
use Rattle.std.proofs.lemmas.Map.Keys.{IsDistinct-cons}
use Rattle.std.proofs.lemmas.Map.Steps.{length-le_from_distinct_below}
use Rattle.std.specs.Prelude.{slice_index}
use Rattle.heap.specs.Heaps.{Holds, Seated}
use Rattle.heap.proofs.Tables.{apart, below_size}

abbrev firsts : List ℕ → ℕ → List ℕ
firsts xs zero = []
firsts xs (suc n) = slice_index xs n ∷ firsts xs n

length_firsts : (xs : List ℕ) (n : ℕ) → length (firsts xs n) ≡ n
length_firsts xs zero = refl
length_firsts xs (suc n) = ap suc (length_firsts xs n)

module _ (size : ℕ) (xs seats : List ℕ) (n : ℕ) (h : Seated size xs seats n) where
  differ : (x : ℕ) (m : ℕ) → ((k : ℕ) → k < m → slice_index xs k ≡ x → ⊥) → AllByRecursion (λ q. (x == q) ≡ false) (firsts xs m)
  differ x zero f = tt
  differ x (suc m) f = (let ne = f m (omega arith) in grind (arith, nat_tests, ne), differ x m (λ k l. f k (omega arith)))

  distinct : (m : ℕ) → m ≤ n → IsDistinct (λ a b. a == b) (firsts xs m)
  unfolding IsDistinct
  distinct zero l = tt
  distinct (suc m) l = IsDistinct-cons (λ a b. a == b) (slice_index xs m) (firsts xs m) (differ (slice_index xs m) m (λ k b e. let q : k ≡ m = apart size xs seats n k m h (omega arith) (omega arith) e in omega arith)) (distinct m (omega arith))

  below : (m : ℕ) → m ≤ n → (q : ℕ) → list_any (λ c. q == c) (firsts xs m) ≡ true → q < size
  below zero l q e = absurd (true≢false (sym e))
  below (suc m) l q e = go (q == slice_index xs m) refl e (below m (omega arith) q)
    where
      go : (b : Bool) → (q == slice_index xs m) ≡ b → (b || list_any (λ c. q == c) (firsts xs m)) ≡ true → (list_any (λ c. q == c) (firsts xs m) ≡ true → q < size) → q < size
      go true t k rest = let small = below_size size xs seats n m h (omega arith) in grind (arith, nat_tests)
      go false t k rest = rest k

  pub seated_few : n ≤ size
  seated_few = subst (λ (m : ℕ). m ≤ size) (length_firsts xs n) (length-le_from_distinct_below (firsts xs n) size (distinct n (omega arith)) (below n (omega arith)))

  -- there is room for one that does not stand among them
  pub fresh_room : (x : ℕ) → x < size → (Holds xs n x → ⊥) → n < size
  fresh_room x small fresh =
      let more : suc (length (firsts xs n)) ≤ size = length-le_from_distinct_below (x ∷ firsts xs n) size (IsDistinct-cons (λ a b. a == b) x (firsts xs n) (differ x n (λ k l e. fresh (k, l, e))) (distinct n (omega arith))) (λ q e. go q (q == x) refl e (below n (omega arith) q)) in
      let long = length_firsts xs n in
      omega (arith, more, long)
    where
      go : (q : ℕ) (b : Bool) → (q == x) ≡ b → (b || list_any (λ c. q == c) (firsts xs n)) ≡ true → (list_any (λ c. q == c) (firsts xs n) ≡ true → q < size) → q < size
      go q true t k rest = grind (arith, nat_tests, small)
      go q false t k rest = rest k
