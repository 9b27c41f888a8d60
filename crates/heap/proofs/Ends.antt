-- What a push and a pop do at the ends, and what an element that falls leaves.
use Rattle.std.proofs.Common.{◌≡◌, ℕ, ◌+◌, ◌-◌, ◌<◌, ◌≤◌, ◌≢◌, Bool, true, List, length, slice_index, slice_set, refl, sym, ap, subst, ◌∙◌, inl, inr, ⊎_elim, arith}
use Rattle.std.proofs.lemmas.Bool.{cases_eq}
use Rattle.std.proofs.lemmas.List.{get_or-set_same, get_or-set_other, set-get_or}
use Rattle.heap.specs.Orders.{IsOrder}
use Rattle.heap.specs.Heaps.{Holds, Seated, IsHeap, Skips, Rises, Sinks, Beside, KeepsRest, Moves, WasHeap}
use Rattle.heap.proofs.Tables.{within_holds, apart, seat}
use Rattle.heap.proofs.Sifts.{by, top_least}

-- a push: x is put behind the last
module _ (size : ℕ) (xs seats : List ℕ) (n x : ℕ) (room : n < length xs) (below : x < size) (sized : size ≤ length seats) where
  pub push_seated : Seated size xs seats n → (Holds xs n x → ⊥) → Seated size (slice_set xs n x) (slice_set seats x n) (n + 1)
  unfolding Seated
  push_seated h fresh = λ k l. ⊎_elim
      (λ e.
      let is_x = ap (slice_index (slice_set xs n x)) e ∙ get_or-set_same xs n x 0 room in
      (subst (λ (y : ℕ). y < size) (sym is_x) below, ap (slice_index (slice_set seats x n)) is_x ∙ get_or-set_same seats x n 0 (omega arith) ∙ sym e))
      (λ u.
      let is = get_or-set_other xs n k x 0 u in
      let old = h k (omega arith) in
      (subst (λ (y : ℕ). y < size) (sym is) old.0, ap (slice_index (slice_set seats x n)) is ∙ get_or-set_other seats x (slice_index xs k) n 0 (λ e. fresh (k, omega arith, e)) ∙ old.1))
      (cases_eq k n)

  pub push_rises : (most : ℕ → ℕ → Bool) → IsHeap most xs n → Rises most (slice_set xs n x) n (n + 1)
  unfolding IsHeap Rises Skips
  push_rises most h = (
    λ p k c f u. by most _ _ _ _ (get_or-set_other xs n p x 0 (omega arith)) (get_or-set_other xs n k x 0 u) (h p k c (omega arith)),
    λ p k c d f. absurd (omega arith),
  )

  pub push_beside : (ys seats' : List ℕ) → Moves size (slice_set xs n x) (slice_set seats x n) (n + 1) ys seats' → Beside xs n x ys (n + 1)
  push_beside ys seats' m = record {
    new = within_holds _ _ _ _ m.same.0 x (n, omega arith, get_or-set_same xs n x 0 room);
    kept = λ y h. within_holds _ _ _ _ m.same.0 y (h.0, omega (arith, h.1), get_or-set_other xs n h.0 x 0 (omega (arith, h.1)) ∙ h.2);
    only = λ y h. let u = within_holds _ _ _ _ m.same.1 y h in ⊎_elim
        (λ e. inl (sym u.2 ∙ ap (slice_index (slice_set xs n x)) e ∙ get_or-set_same xs n x 0 room))
        (λ e. inr (u.0, omega (arith, u.1), sym (get_or-set_other xs n u.0 x 0 e) ∙ u.2))
        (cases_eq u.0 n);
  }

  pub push_rest : (ys seats' : List ℕ) → Moves size (slice_set xs n x) (slice_set seats x n) (n + 1) ys seats' → KeepsRest xs seats ys seats' (n + 1)
  push_rest ys seats' m = record {
    beyond = λ k l. m.rest.beyond k l ∙ get_or-set_other xs n k x 0 (omega arith);
    others = λ y free. m.rest.others y free ∙ get_or-set_other seats x y n 0 (λ e. free (within_holds _ _ _ _ m.same.0 y (n, omega arith, get_or-set_same xs n x 0 room ∙ sym e)));
  }

-- a pop: the last, which stood at m, is in hand, and the top is the hole
module _ (size : ℕ) (xs seats : List ℕ) (n m last : ℕ) (split : m + 1 ≡ n) (more : 0 < m) (fits : n ≤ length xs) (sized : size ≤ length seats) (is : last ≡ slice_index xs m) (h : Seated size xs seats n) where
  top_last : slice_index (slice_set xs 0 last) 0 ≡ last
  top_last = get_or-set_same xs 0 last 0 (omega arith)

  last_below : last < size
  unfolding Seated
  last_below = subst (λ (y : ℕ). y < size) (sym is) (h m (omega arith)).0

  pub pop_seated : Seated size (slice_set xs 0 last) (slice_set seats last 0) m
  unfolding Seated
  pop_seated = λ k l. ⊎_elim
      (λ e.
      let is_last = ap (slice_index (slice_set xs 0 last)) e ∙ top_last in
      (subst (λ (y : ℕ). y < size) (sym is_last) last_below, ap (slice_index (slice_set seats last 0)) is_last ∙ get_or-set_same seats last 0 0 (omega (arith, last_below)) ∙ sym e))
      (λ u.
      let same = get_or-set_other xs 0 k last 0 u in
      let old = h k (omega arith) in (
        subst (λ (y : ℕ). y < size) (sym same) old.0,
        ap (slice_index (slice_set seats last 0)) same ∙ get_or-set_other seats last (slice_index xs k) 0 0 (λ e. let q : k ≡ m = apart size xs seats n k m h (omega arith) (omega arith) (e ∙ is) in omega arith) ∙ old.1,
      ))
      (cases_eq k 0)

  pub pop_sinks : (most : ℕ → ℕ → Bool) → IsHeap most xs n → Sinks most (slice_set xs 0 last) 0 m
  unfolding IsHeap Sinks Skips
  pop_sinks most hp = (
    λ p k c f u. by most _ _ _ _ (get_or-set_other xs 0 p last 0 u) (get_or-set_other xs 0 k last 0 (omega arith)) (hp p k c (omega arith)),
    λ p k c d f. absurd (omega arith),
  )

  module _ (ys seats' : List ℕ) (moves : Moves size (slice_set xs 0 last) (slice_set seats last 0) m ys seats') where
    pub pop_beside : Beside ys m (slice_index xs 0) xs n
    pop_beside = record {
      new = (0, omega arith, refl);
      kept = λ y u. let v = within_holds _ _ _ _ moves.same.1 y u in ⊎_elim
          (λ e. (m, omega arith, sym is ∙ sym top_last ∙ ap (slice_index (slice_set xs 0 last)) (sym e) ∙ v.2))
          (λ e. (v.0, omega (arith, v.1), sym (get_or-set_other xs 0 v.0 last 0 e) ∙ v.2))
          (cases_eq v.0 0);
      only = λ y u. ⊎_elim
          (λ e. inl (sym u.2 ∙ ap (slice_index xs) e))
          (λ e. inr (within_holds _ _ _ _ moves.same.0 y (⊎_elim
          (λ d. (0, omega arith, top_last ∙ is ∙ ap (slice_index xs) (sym d) ∙ u.2))
          (λ d. (u.0, omega (arith, u.1), get_or-set_other xs 0 u.0 last 0 e ∙ u.2))
          (cases_eq u.0 m))))
          (cases_eq u.0 0);
    }

    pub pop_gone : Holds ys m (slice_index xs 0) → ⊥
    pop_gone u = let v = within_holds _ _ _ _ moves.same.1 (slice_index xs 0) u in ⊎_elim
        (λ e. let q : m ≡ 0 = apart size xs seats n m 0 h (omega arith) (omega arith) (sym is ∙ sym top_last ∙ ap (slice_index (slice_set xs 0 last)) (sym e) ∙ v.2) in omega arith)
        (λ e. e (apart size xs seats n v.0 0 h (omega (arith, v.1)) (omega arith) (sym (get_or-set_other xs 0 v.0 last 0 e) ∙ v.2)))
        (cases_eq v.0 0)

    pub pop_rest : KeepsRest xs seats ys seats' m
    pop_rest = record {
      beyond = λ k l. moves.rest.beyond k l ∙ get_or-set_other xs 0 k last 0 (omega arith);
      others = λ y free. moves.rest.others y free ∙ get_or-set_other seats last y 0 0 (λ e. free (within_holds _ _ _ _ moves.same.0 y (0, more, top_last ∙ sym e)));
    }

-- a pop of the only element
pub only_beside : (xs : List ℕ) (n : ℕ) → n ≡ 1 → Beside xs (n - 1) (slice_index xs 0) xs n
only_beside xs n one = record {
  new = (0, omega arith, refl);
  kept = λ y u. absurd (omega (arith, u.1));
  only = λ y u. inl (sym u.2 ∙ ap (slice_index xs) (omega (arith, u.1)));
}

pub pop_least : (most : ℕ → ℕ → Bool) → IsOrder most → (xs : List ℕ) (n : ℕ) → IsHeap most xs n → (y : ℕ) → Holds xs n y → most (slice_index xs 0) y ≡ true
pop_least most laws xs n hp y u = by most _ _ _ _ refl (sym u.2) (top_least most laws xs n hp u.0 u.0 (omega arith) u.1)

-- where one element alone became less, it may have to rise
pub lowered : (size : ℕ) (most : ℕ → ℕ → Bool) (xs seats : List ℕ) (n x : ℕ) → Seated size xs seats n → Holds xs n x → WasHeap most xs n x → Rises most xs (slice_index seats x) n
unfolding IsHeap Rises Skips
lowered size most xs seats n x h held was =
    let s = seat size xs seats n x h held in
    let j = slice_index seats x in
    let other : (k : ℕ) → k < n → k ≢ j → slice_index xs k ≢ x = λ k l u e. u (apart size xs seats n k j h l s.1 (e ∙ sym s.2)) in (
      λ p k c f u. ⊎_elim
          (λ e.
          let is = ap (slice_index xs) e ∙ s.2 in
          by most _ _ _ _ is refl (was.lowers.less (slice_index xs k) (k, f, refl) (other k f u) (by was.old _ _ _ _ (sym is) refl (was.heap p k c f))))
          (λ e. was.lowers.others _ _ (p, omega arith, refl) (k, f, refl) (other p (omega arith) e) (other k f u) (was.heap p k c f))
          (cases_eq p j),
      λ p k c d f. was.lowers.others _ _ (p, omega (arith, s.1), refl) (k, f, refl) (other p (omega (arith, s.1)) (omega arith)) (other k f (omega arith)) (was.order.transitive _ _ _ (was.heap p j c s.1) (was.heap j k d f)),
    )

-- an element that is put where it stands changes nothing
module _ (size : ℕ) (xs seats : List ℕ) (n x at : ℕ) (h : Seated size xs seats n) (held : Holds xs n x) (is : at ≡ slice_index seats x) where
  put_slots : slice_set xs at x ≡ xs
  put_slots = ap (slice_set xs at) (sym (seat size xs seats n x h held).2 ∙ ap (slice_index xs) (sym is)) ∙ set-get_or xs at 0

  put_seats : slice_set seats x at ≡ seats
  put_seats = ap (slice_set seats x) is ∙ set-get_or seats x 0

  pub lower_place : at < n
  lower_place = subst (λ (k : ℕ). k < n) (sym is) (seat size xs seats n x h held).1

  pub lower_seated : Seated size (slice_set xs at x) (slice_set seats x at) n
  lower_seated = subst (λ (ys : List ℕ). Seated size ys (slice_set seats x at) n) (sym put_slots) (subst (λ (cs : List ℕ). Seated size xs cs n) (sym put_seats) h)

  pub lower_rises : (most : ℕ → ℕ → Bool) → WasHeap most xs n x → Rises most (slice_set xs at x) at n
  lower_rises most was = subst (λ (ys : List ℕ). Rises most ys at n) (sym put_slots) (subst (λ (k : ℕ). Rises most xs k n) (sym is) (lowered size most xs seats n x h held was))

  pub lower_moves : (ys seats' : List ℕ) → Moves size (slice_set xs at x) (slice_set seats x at) n ys seats' → Moves size xs seats n ys seats'
  lower_moves ys seats' m = subst (λ (zs : List ℕ). Moves size zs seats n ys seats') put_slots (subst (λ (cs : List ℕ). Moves size (slice_set xs at x) cs n ys seats') put_seats m)
