-- A heap in two tables: which element stands at each place, and where each element stands. Of a heap
-- of n elements only the first n places count.
use Rattle.std.specs.Prelude.{◌≡◌, ℕ, ◌+◌, ◌*◌, ◌<◌, ◌≤◌, ◌≢◌, ◌⊎◌, Bool, true, ◌&&◌, ◌==◌, List, nat_lt, slice_index}
use Rattle.std.proofs.Props.{props}
use Rattle.heap.specs.Orders.{IsOrder}

-- x stands among the first n
abbrev pub Holds : List ℕ → ℕ → ℕ → Type 0
Holds xs n x = (k : ℕ) × (k < n) × (slice_index xs k ≡ x)

-- each of the first n stands among the first m of another table
unfoldable pub Within : List ℕ → ℕ → List ℕ → ℕ → Type 0
Within xs n ys m = (k : ℕ) → k < n → Holds ys m (slice_index xs k)

abbrev pub Same : List ℕ → ℕ → List ℕ → ℕ → Type 0
Same xs n ys m = Within xs n ys m × Within ys m xs n

-- the first n are below size, and the seats say of each of them where it stands; so they are distinct
unfoldable pub Seated : ℕ → List ℕ → List ℕ → ℕ → Type 0
Seated size xs seats n = (k : ℕ) → k < n → (slice_index xs k < size) × (slice_index seats (slice_index xs k) ≡ k)

-- k is one of the four children of p
abbrev pub IsChild : ℕ → ℕ → Type 0
IsChild p k = (p * 4 + 1 ≤ k) × (k ≤ p * 4 + 4)

-- of the first n each but the top has a parent that is at most it
unfoldable pub IsHeap : (ℕ → ℕ → Bool) → List ℕ → ℕ → Type 0
IsHeap most xs n = (p k : ℕ) → IsChild p k → k < n → most (slice_index xs p) (slice_index xs k) ≡ true

-- the parent of j, if it has one, is at most the children of j
unfoldable pub Skips : (ℕ → ℕ → Bool) → List ℕ → ℕ → ℕ → Type 0
Skips most xs j n = (p k : ℕ) → IsChild p j → IsChild j k → k < n → most (slice_index xs p) (slice_index xs k) ≡ true

-- a heap, but that the element at j may be less than its parent
unfoldable pub Rises : (ℕ → ℕ → Bool) → List ℕ → ℕ → ℕ → Type 0
Rises most xs j n = ((p k : ℕ) → IsChild p k → k < n → k ≢ j → most (slice_index xs p) (slice_index xs k) ≡ true) × Skips most xs j n

-- a heap, but that a child of j may be less than the element at j
unfoldable pub Sinks : (ℕ → ℕ → Bool) → List ℕ → ℕ → ℕ → Type 0
Sinks most xs j n = ((p k : ℕ) → IsChild p k → k < n → p ≢ j → most (slice_index xs p) (slice_index xs k) ≡ true) × Skips most xs j n

-- no child of j among the first n is less than the element at c
unfoldable pub IsLeastChild : (ℕ → ℕ → Bool) → List ℕ → ℕ → ℕ → ℕ → Type 0
IsLeastChild most xs j c n = (k : ℕ) → IsChild j k → k < n → most (slice_index xs c) (slice_index xs k) ≡ true

-- the first n of one table, with x beside them, are the first m of another
pub record Beside (xs : List ℕ) (n x : ℕ) (ys : List ℕ) (m : ℕ) : Type 0 where
  pub new : Holds ys m x
  pub kept : (y : ℕ) → Holds xs n y → Holds ys m y
  pub only : (y : ℕ) → Holds ys m y → (y ≡ x) ⊎ Holds xs n y

-- what stands beyond the first n, and the seats of all that does not stand among them, are as they were
pub record KeepsRest (xs seats ys seats' : List ℕ) (n : ℕ) : Type 0 where
  pub beyond : (k : ℕ) → n ≤ k → slice_index ys k ≡ slice_index xs k
  pub others : (y : ℕ) → (Holds ys n y → ⊥) → slice_index seats' y ≡ slice_index seats y

-- the first n stand in other places, and all else is as it was
pub record Moves (size : ℕ) (xs seats : List ℕ) (n : ℕ) (ys seats' : List ℕ) : Type 0 where
  pub seated : Seated size ys seats' n
  pub same : Same xs n ys n
  pub rest : KeepsRest xs seats ys seats' n

-- among the first n, from one order to another x alone became less, or stayed
pub record Lowers (old new : ℕ → ℕ → Bool) (xs : List ℕ) (n x : ℕ) : Type 0 where
  pub others : (a b : ℕ) → Holds xs n a → Holds xs n b → a ≢ x → b ≢ x → old a b ≡ true → new a b ≡ true
  pub less : (b : ℕ) → Holds xs n b → b ≢ x → old x b ≡ true → new x b ≡ true

-- it was a heap by some order, before x alone became less
pub record WasHeap (most : ℕ → ℕ → Bool) (xs : List ℕ) (n x : ℕ) : Type 0 where
  pub old : ℕ → ℕ → Bool
  pub order : IsOrder old
  pub lowers : Lowers old most xs n x
  pub heap : IsHeap old xs n

-- whether x stands among the first n, by its seat
abbrev pub is_held : List ℕ → List ℕ → ℕ → ℕ → Bool
is_held xs seats n x = nat_lt (slice_index seats x) n && (slice_index xs (slice_index seats x) == x)

-- each of these facts has one proof
pub Seated-prop : (size : ℕ) (xs seats : List ℕ) (n : ℕ) → IsProp (Seated size xs seats n)
unfolding Seated
Seated-prop size xs seats n = Prim.hlevel props

pub IsHeap-prop : (most : ℕ → ℕ → Bool) (xs : List ℕ) (n : ℕ) → IsProp (IsHeap most xs n)
unfolding IsHeap
IsHeap-prop most xs n = Prim.hlevel props
