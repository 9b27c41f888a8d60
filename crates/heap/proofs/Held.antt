-- What stands in a heap, by its seats, and when a heap stays one.
use Rattle.std.proofs.Common.{◌≡◌, ℕ, ◌<◌, Bool, true, false, List, slice_index, refl, sym, ◌∙◌, arith}
use Rattle.std.proofs.lemmas.Bool.Decides.{nat_tests}
use Rattle.heap.specs.Heaps.{Holds, Seated, IsHeap, is_held}
use Rattle.heap.proofs.Tables.{seat}

pub held_holds : (size : ℕ) (xs seats : List ℕ) (n x : ℕ) → Seated size xs seats n → is_held xs seats n x ≡ true → Holds xs n x
held_holds size xs seats n x h e = let at : slice_index seats x < n = grind (arith, nat_tests) in let is : slice_index xs (slice_index seats x) ≡ x = grind (arith, nat_tests) in (slice_index seats x, at, is)

pub holds_held : (size : ℕ) (xs seats : List ℕ) (n x : ℕ) → Seated size xs seats n → Holds xs n x → is_held xs seats n x ≡ true
holds_held size xs seats n x h held = let s = seat size xs seats n x h held in let at = s.1 in let is = s.2 in grind (arith, nat_tests)

-- the same elements are held in both
pub held_same : (size : ℕ) (xs seats ys seats' : List ℕ) (n m x : ℕ) → Seated size xs seats n → Seated size ys seats' m → (Holds xs n x → Holds ys m x) → (Holds ys m x → Holds xs n x) → is_held ys seats' m x ≡ is_held xs seats n x
held_same size xs seats ys seats' n m x h k f g = go (is_held ys seats' m x) (is_held xs seats n x) refl refl
  where
    go : (a b : Bool) → is_held ys seats' m x ≡ a → is_held xs seats n x ≡ b → is_held ys seats' m x ≡ is_held xs seats n x
    go true b p q = p ∙ sym (holds_held size xs seats n x h (g (held_holds size ys seats' m x k p)))
    go false true p q = holds_held size ys seats' m x k (f (held_holds size xs seats n x h q)) ∙ sym q
    go false false p q = p ∙ sym q

pub not_held : (size : ℕ) (xs seats : List ℕ) (n x : ℕ) → Seated size xs seats n → (Holds xs n x → ⊥) → is_held xs seats n x ≡ false
not_held size xs seats n x h free = go (is_held xs seats n x) refl
  where
    go : (a : Bool) → is_held xs seats n x ≡ a → is_held xs seats n x ≡ false
    go true p = absurd (free (held_holds size xs seats n x h p))
    go false p = p

-- by an order that agrees on what stands in it, a heap stays one
pub heap_agrees : (old new : ℕ → ℕ → Bool) (xs : List ℕ) (n : ℕ) → ((a b : ℕ) → Holds xs n a → Holds xs n b → old a b ≡ true → new a b ≡ true) → IsHeap old xs n → IsHeap new xs n
unfolding IsHeap
heap_agrees old new xs n agrees h = λ p k c l. agrees _ _ (p, omega arith, refl) (k, l, refl) (h p k c l)
