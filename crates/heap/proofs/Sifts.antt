-- What each step of a sift keeps, over an order with its two laws.
use Rattle.std.proofs.Common.{◌≡◌, ℕ, zero, suc, ◌+◌, ◌-◌, ◌*◌, ◌/◌, ◌<◌, ◌≤◌, min, Bool, true, false, List, length, slice_index, slice_set, refl, sym, ap, ◌∙◌, ⊎_elim, arith}
use Rattle.std.proofs.lemmas.Bool.{cases_eq}
use Rattle.std.proofs.lemmas.List.{get_or-set_same, get_or-set_other}
use Rattle.heap.specs.Orders.{IsOrder, by_key}
use Rattle.heap.specs.Heaps.{IsChild, IsHeap, Skips, Rises, Sinks, IsLeastChild}
use Rattle.heap.proofs.Tables.{Swapped, swapped}

-- by keys in order, numbers are
pub by_key_order : {K : Type 0} (key : ℕ → K) (most : K → K → Bool) → IsOrder most → IsOrder (by_key key most)
by_key_order key most laws = record { total = λ a b. laws.total _ _; transitive = λ a b c. laws.transitive _ _ _ }

module _ (most : ℕ → ℕ → Bool) where
  pub by : (a b x y : ℕ) → a ≡ x → b ≡ y → most x y ≡ true → most a b ≡ true
  by a b x y p q h = ap (λ z. most z b) p ∙ ap (most x) q ∙ h

  pub none_heap : (xs : List ℕ) (n : ℕ) → n ≡ 0 → IsHeap most xs n
  unfolding IsHeap
  none_heap xs n e = λ p k c l. absurd (omega arith)

  -- at the top nothing is less than its parent
  pub rise_tops : (xs : List ℕ) (j n : ℕ) → j ≡ 0 → Rises most xs j n → IsHeap most xs n
  unfolding Rises IsHeap
  rise_tops xs j n e h = λ p k c l. h.0 p k c l (omega arith)

  -- the parent is at most the element
  pub rise_rests : (xs : List ℕ) (p j n : ℕ) → IsChild p j → most (slice_index xs p) (slice_index xs j) ≡ true → Rises most xs j n → IsHeap most xs n
  unfolding Rises IsHeap
  rise_rests xs p j n c t h = λ q k d l. ⊎_elim
      (λ e. let same : q ≡ p = omega arith in by _ _ _ _ (ap (slice_index xs) same) (ap (slice_index xs) e) t)
      (λ e. h.0 q k d l e)
      (cases_eq k j)

  -- an element with no children has none that is less
  pub sink_ends : (xs : List ℕ) (j n : ℕ) → n ≤ j * 4 + 1 → Sinks most xs j n → IsHeap most xs n
  unfolding Sinks IsHeap
  sink_ends xs j n l h = λ p k c i. h.0 p k c i (omega arith)

  -- none of four is left out
  pub all_children : (xs : List ℕ) (j c k n : ℕ) → k ≡ min n (j * 4 + 5) → IsLeastChild most xs j c k → IsLeastChild most xs j c n
  unfolding IsLeastChild
  all_children xs j c k n e h = λ q d f. h q d (omega arith)

  module _ (laws : IsOrder most) where
    -- the element at j goes up, to p
    pub rise_step : (xs ys : List ℕ) (p j n : ℕ) → IsChild p j → j < n → most (slice_index xs j) (slice_index xs p) ≡ true → Swapped xs ys p j → Rises most xs j n → Rises most ys p n
    unfolding Rises Skips
    rise_step xs ys p j n par in' t s h = (
      λ q k c f u. ⊎_elim
          (λ e. ⊎_elim
          (λ d. by _ _ _ _ (ap (slice_index ys) e ∙ s.first) (ap (slice_index ys) d ∙ s.second) t)
          (λ d. by _ _ _ _ (ap (slice_index ys) e ∙ s.first) (s.others k u d) (laws.transitive _ _ _ t (h.0 p k (omega arith, omega arith) f d)))
          (cases_eq k j))
          (λ v. ⊎_elim
          (λ e. by _ _ _ _ (ap (slice_index ys) e ∙ s.second) (s.others k u (omega arith)) (h.1 p k par (omega arith, omega arith) f))
          (λ e. by _ _ _ _ (s.others q v e) (s.others k u (omega arith)) (h.0 q k c f (omega arith)))
          (cases_eq q j))
          (cases_eq q p),
      λ q k c d f.
          let over = h.0 q p c (omega arith) (omega arith) in
          ⊎_elim
          (λ e. by _ _ _ _ (s.others q (omega arith) (omega arith)) (ap (slice_index ys) e ∙ s.second) over)
          (λ e. by _ _ _ _ (s.others q (omega arith) (omega arith)) (s.others k (omega arith) e) (laws.transitive _ _ _ over (h.0 p k d f e)))
          (cases_eq k j),
    )

    -- the element is at most the least child
    pub sink_rests : (xs : List ℕ) (j c n : ℕ) → IsLeastChild most xs j c n → most (slice_index xs j) (slice_index xs c) ≡ true → Sinks most xs j n → IsHeap most xs n
    unfolding Sinks IsHeap IsLeastChild
    sink_rests xs j c n least t h = λ q k d f. ⊎_elim
        (λ e. by _ _ _ _ (ap (slice_index xs) e) refl (laws.transitive _ _ _ t (least k (omega arith, omega arith) f)))
        (λ v. h.0 q k d f v)
        (cases_eq q j)

    -- the element at j goes down, to the least child c
    pub sink_step : (xs ys : List ℕ) (j c n : ℕ) → IsChild j c → c < n → IsLeastChild most xs j c n → most (slice_index xs c) (slice_index xs j) ≡ true → Swapped xs ys c j → Sinks most xs j n → Sinks most ys c n
    unfolding Sinks Skips IsLeastChild
    sink_step xs ys j c n par in' least t s h = (
      λ q k d f v. ⊎_elim
          (λ e. ⊎_elim
          (λ u. by _ _ _ _ (ap (slice_index ys) e ∙ s.second) (ap (slice_index ys) u ∙ s.first) t)
          (λ u. by _ _ _ _ (ap (slice_index ys) e ∙ s.second) (s.others k u (omega arith)) (least k (omega arith, omega arith) f))
          (cases_eq k c))
          (λ w. ⊎_elim
          (λ e. by _ _ _ _ (s.others q v w) (ap (slice_index ys) e ∙ s.second) (h.1 q c (omega arith, omega arith) par in'))
          (λ e. by _ _ _ _ (s.others q v w) (s.others k (omega arith) e) (h.0 q k d f w))
          (cases_eq k j))
          (cases_eq q j),
      λ q k d b f.
          let e : q ≡ j = omega arith in
          by _ _ _ _ (ap (slice_index ys) e ∙ s.second) (s.others k (omega arith) (omega arith)) (h.0 c k b f (omega arith)),
    )

    pub itself : (x : ℕ) → most x x ≡ true
    itself x = go (most x x) refl
      where
        go : (t : Bool) → most x x ≡ t → most x x ≡ true
        go true e = e
        go false e = laws.total x x e

    -- the least child of those before the place k, and what the one at k makes of it
    pub first_child : (xs : List ℕ) (j c k : ℕ) → c ≡ j * 4 + 1 → k ≡ c + 1 → IsLeastChild most xs j c k
    unfolding IsLeastChild
    first_child xs j c k e l = λ q d f. let same : q ≡ c = omega arith in by _ _ _ _ refl (ap (slice_index xs) same) (itself _)

    pub greater_child : (xs : List ℕ) (j c k : ℕ) → most (slice_index xs c) (slice_index xs k) ≡ true → IsLeastChild most xs j c k → IsLeastChild most xs j c (k + 1)
    unfolding IsLeastChild
    greater_child xs j c k t h = λ q d f. ⊎_elim
        (λ same. by _ _ _ _ refl (ap (slice_index xs) same) t)
        (λ u. h q d (omega arith))
        (cases_eq q k)

    pub lesser_child : (xs : List ℕ) (j c k : ℕ) → most (slice_index xs c) (slice_index xs k) ≡ false → IsLeastChild most xs j c k → IsLeastChild most xs j k (k + 1)
    unfolding IsLeastChild
    lesser_child xs j c k t h = λ q d f. ⊎_elim
        (λ same. by _ _ _ _ refl (ap (slice_index xs) same) (itself _))
        (λ u. laws.transitive _ _ _ (laws.total _ _ t) (h q d (omega arith)))
        (cases_eq q k)

    -- the top is at most every other
    pub top_least : (xs : List ℕ) (n : ℕ) → IsHeap most xs n → (fuel k : ℕ) → k ≤ fuel → k < n → most (slice_index xs 0) (slice_index xs k) ≡ true
    unfolding IsHeap
    top_least xs n h zero k a b = let same : k ≡ 0 = omega arith in by _ _ _ _ refl (ap (slice_index xs) same) (itself _)
    top_least xs n h (suc fuel) k a b = ⊎_elim
        (λ same. by _ _ _ _ refl (ap (slice_index xs) same) (itself _))
        (λ u. laws.transitive _ _ _ (top_least xs n h fuel ((k - 1) / 4) (omega arith) (omega arith)) (h ((k - 1) / 4) k (omega arith, omega arith) b))
        (cases_eq k 0)

-- the same steps in the tables that the code has, where x is in hand and its place j a hole
module _ (most : ℕ → ℕ → Bool) (xs : List ℕ) (j n x : ℕ) (in' : j < n) (fits : n ≤ length xs) where
  pub hole_rests : (p : ℕ) → IsChild p j → most (slice_index xs p) x ≡ true → Rises most (slice_set xs j x) j n → IsHeap most (slice_set xs j x) n
  hole_rests p c t h = rise_rests most (slice_set xs j x) p j n c (by most _ _ _ _ (get_or-set_other xs j p x 0 (omega arith)) (get_or-set_same xs j x 0 (omega arith)) t) h

  least_same : (p : ℕ) → IsChild j p → IsLeastChild most xs j p n → IsLeastChild most (slice_set xs j x) j p n
  unfolding IsLeastChild
  least_same p c least = λ k d f. by most _ _ _ _ (get_or-set_other xs j p x 0 (omega arith)) (get_or-set_other xs j k x 0 (omega arith)) (least k d f)

  module _ (laws : IsOrder most) where
    pub hole_rises : (p y : ℕ) → IsChild p j → y ≡ slice_index xs p → most y x ≡ false → Rises most (slice_set xs j x) j n → Rises most (slice_set (slice_set xs j y) p x) p n
    hole_rises p y c is t h =
        rise_step most laws (slice_set xs j x) _ p j n c in'
        (by most _ _ _ _ (get_or-set_same xs j x 0 (omega arith)) (get_or-set_other xs j p x 0 (omega arith) ∙ sym is) (laws.total _ _ t))
        (swapped xs xs n j p x y in' (omega arith) (omega arith) fits is) h

    pub hole_stays : (p y : ℕ) → IsChild j p → y ≡ slice_index xs p → IsLeastChild most xs j p n → most x y ≡ true → Sinks most (slice_set xs j x) j n → IsHeap most (slice_set xs j x) n
    hole_stays p y c is least t h =
        sink_rests most laws (slice_set xs j x) j p n
        (least_same p c least)
        (by most _ _ _ _ (get_or-set_same xs j x 0 (omega arith)) (get_or-set_other xs j p x 0 (omega arith) ∙ sym is) t) h

    pub hole_sinks : (p y : ℕ) → IsChild j p → p < n → y ≡ slice_index xs p → IsLeastChild most xs j p n → most x y ≡ false → Sinks most (slice_set xs j x) j n → Sinks most (slice_set (slice_set xs j y) p x) p n
    hole_sinks p y c at is least t h =
        sink_step most laws (slice_set xs j x) _ j p n c at
        (least_same p c least)
        (by most _ _ _ _ (get_or-set_other xs j p x 0 (omega arith) ∙ sym is) (get_or-set_same xs j x 0 (omega arith)) (laws.total _ _ t))
        (swapped xs xs n j p x y in' at (omega arith) fits is) h
