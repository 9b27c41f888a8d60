-- What stands in the tables when one element is put in the hole, and when the hole moves.
use Rattle.std.proofs.Common.{◌≡◌, ℕ, ◌<◌, ◌≤◌, ◌≢◌, List, length, slice_index, slice_set, refl, sym, ap, subst, ◌∙◌, ⊎_elim, arith}
use Rattle.std.proofs.lemmas.Bool.{cases_eq}
use Rattle.std.proofs.lemmas.List.{get_or-set_same, get_or-set_other}
use Rattle.std.proofs.Math.ListN.{length-set}
use Rattle.heap.specs.Heaps.{Holds, Within, Seated, Moves}

-- the same elements
pub within_refl : (xs : List ℕ) (n : ℕ) → Within xs n xs n
unfolding Within
within_refl xs n = λ k h. (k, h, refl)

pub within_trans : (xs ys zs : List ℕ) (a b c : ℕ) → Within xs a ys b → Within ys b zs c → Within xs a zs c
unfolding Within
within_trans xs ys zs a b c f g = λ k h. let u = f k h in let v = g u.0 u.1 in (v.0, v.1, v.2 ∙ u.2)

pub within_holds : (xs ys : List ℕ) (n m : ℕ) → Within xs n ys m → (y : ℕ) → Holds xs n y → Holds ys m y
unfolding Within
within_holds xs ys n m f y h = let u = f h.0 h.1 in (u.0, u.1, u.2 ∙ h.2)

-- two places of the heap never hold the same
pub apart : (size : ℕ) (xs seats : List ℕ) (n i j : ℕ) → Seated size xs seats n → i < n → j < n → slice_index xs i ≡ slice_index xs j → i ≡ j
unfolding Seated
apart size xs seats n i j h p q e = sym (h i p).1 ∙ ap (slice_index seats) e ∙ (h j q).1

pub below_size : (size : ℕ) (xs seats : List ℕ) (n k : ℕ) → Seated size xs seats n → k < n → slice_index xs k < size
unfolding Seated
below_size size xs seats n k h p = (h k p).0

pub none_seated : (size : ℕ) (xs seats : List ℕ) (n : ℕ) → n ≡ 0 → Seated size xs seats n
unfolding Seated
none_seated size xs seats n e = λ k l. absurd (omega arith)

-- where an element stands
pub seat : (size : ℕ) (xs seats : List ℕ) (n x : ℕ) → Seated size xs seats n → Holds xs n x → (x < size) × (slice_index seats x < n) × (slice_index xs (slice_index seats x) ≡ x)
unfolding Seated
seat size xs seats n x h held =
    let at : slice_index seats x ≡ held.0 = sym (ap (slice_index seats) held.2) ∙ (h held.0 held.1).1 in
    (subst (λ (y : ℕ). y < size) held.2 (h held.0 held.1).0, subst (λ (y : ℕ). y < n) (sym at) held.1, ap (slice_index xs) at ∙ held.2)

pub moves_refl : (size : ℕ) (xs seats : List ℕ) (n : ℕ) → Seated size xs seats n → Moves size xs seats n xs seats
moves_refl size xs seats n h = record {
  seated = h;
  same = (within_refl xs n, within_refl xs n);
  rest = record { beyond = λ k l. refl; others = λ y f. refl };
}

pub moves_trans : (size : ℕ) (xs at_xs ys at_ys zs at_zs : List ℕ) (n : ℕ) → Moves size xs at_xs n ys at_ys → Moves size ys at_ys n zs at_zs → Moves size xs at_xs n zs at_zs
moves_trans size xs at_xs ys at_ys zs at_zs n f g = record {
  seated = g.seated;
  same = (within_trans _ _ _ _ _ _ f.same.0 g.same.0, within_trans _ _ _ _ _ _ g.same.1 f.same.1);
  rest = record {
    beyond = λ k l. g.rest.beyond k l ∙ f.rest.beyond k l;
    others = λ y free. g.rest.others y free ∙ f.rest.others y (λ h. free (within_holds _ _ _ _ g.same.0 y h));
  };
}

-- two places have changed what they hold, and no other has
pub record Swapped (xs ys : List ℕ) (a b : ℕ) : Type 0 where
  pub first : slice_index ys a ≡ slice_index xs b
  pub second : slice_index ys b ≡ slice_index xs a
  pub others : (m : ℕ) → m ≢ a → m ≢ b → slice_index ys m ≡ slice_index xs m

swapped_within : (xs ys : List ℕ) (i j n : ℕ) → i < n → j < n → Swapped xs ys i j → Within xs n ys n
unfolding Within
swapped_within xs ys i j n p q s =
    λ k h. ⊎_elim (λ e. (j, q, s.second ∙ ap (slice_index xs) (sym e))) (λ u. ⊎_elim (λ e. (i, p, s.first ∙ ap (slice_index xs) (sym e))) (λ v. (k, h, s.others k u v)) (cases_eq k j)) (cases_eq k i)

swapped_back : (xs ys : List ℕ) (i j : ℕ) → Swapped xs ys i j → Swapped ys xs i j
swapped_back xs ys i j s = record { first = sym s.second; second = sym s.first; others = λ m u v. sym (s.others m u v) }

-- x is in hand and its place j a hole; what stands at p moves there, so that p is the hole
module _ (xs seats : List ℕ) (n j p x y : ℕ) (in' : j < n) (at : p < n) (ne : p ≢ j) (fits : n ≤ length xs) (is : y ≡ slice_index xs p) where
  pub swapped : Swapped (slice_set xs j x) (slice_set (slice_set xs j y) p x) p j
  swapped = record {
    first = get_or-set_same _ p x 0 (omega (arith, length-set xs j y)) ∙ sym (get_or-set_same xs j x 0 (omega arith));
    second = get_or-set_other _ p j x 0 (λ e. ne (sym e)) ∙ get_or-set_same xs j y 0 (omega arith) ∙ is ∙ sym (get_or-set_other xs j p x 0 ne);
    others = λ m u v. get_or-set_other _ p m x 0 u ∙ get_or-set_other xs j m y 0 v ∙ sym (get_or-set_other xs j m x 0 v);
  }

  module _ (size : ℕ) (sized : size ≤ length seats) (below : x < size) (h : Seated size (slice_set xs j x) (slice_set seats x j) n) where
    was : slice_index (slice_set xs j x) p ≡ y
    was = get_or-set_other xs j p x 0 ne ∙ sym is

    hand : slice_index (slice_set xs j x) j ≡ x
    hand = get_or-set_same xs j x 0 (omega arith)

    pub other_below : y < size
    other_below = subst (λ (z : ℕ). z < size) was (below_size size _ _ n p h at)

    differs : y ≢ x
    differs e = ne (apart size _ _ n p j h at in' (was ∙ e ∙ sym hand))

    -- the seats of all but the two
    seats_other : (z : ℕ) → z ≢ x → z ≢ y → slice_index (slice_set (slice_set seats y j) x p) z ≡ slice_index (slice_set seats x j) z
    seats_other z u v = get_or-set_other _ x z p 0 u ∙ get_or-set_other seats y z j 0 v ∙ sym (get_or-set_other seats x z j 0 u)

    seated : Seated size (slice_set (slice_set xs j y) p x) (slice_set (slice_set seats y j) x p) n
    unfolding Seated
    seated k l = ⊎_elim
        (λ e.
        let is_x = ap (slice_index (slice_set (slice_set xs j y) p x)) e ∙ swapped.first ∙ hand in
        (subst (λ (z : ℕ). z < size) (sym is_x) below, ap (slice_index (slice_set (slice_set seats y j) x p)) is_x ∙ get_or-set_same _ x p 0 (omega (arith, length-set seats y j)) ∙ sym e))
        (λ u. ⊎_elim
        (λ e.
        let is_y = ap (slice_index (slice_set (slice_set xs j y) p x)) e ∙ swapped.second ∙ was in
        (subst (λ (z : ℕ). z < size) (sym is_y) other_below, ap (slice_index (slice_set (slice_set seats y j) x p)) is_y ∙ get_or-set_other _ x y p 0 differs ∙ get_or-set_same seats y j 0 (omega (arith, other_below)) ∙ sym e))
        (λ v.
        let same_z = swapped.others k u v in
        let z = slice_index (slice_set xs j x) k in (
          subst (λ (z : ℕ). z < size) (sym same_z) (h k l).0,
          ap (slice_index (slice_set (slice_set seats y j) x p)) same_z
              ∙ seats_other z (λ e. v (apart size _ _ n k j h l in' (e ∙ sym hand))) (λ e. u (apart size _ _ n k p h l at (e ∙ sym was)))
              ∙ (h k l).1,
        ))
        (cases_eq k j))
        (cases_eq k p)

    pub moved : Moves size (slice_set xs j x) (slice_set seats x j) n (slice_set (slice_set xs j y) p x) (slice_set (slice_set seats y j) x p)
    moved = record {
      seated = seated;
      same = (swapped_within _ _ p j n at in' swapped, swapped_within _ _ p j n at in' (swapped_back _ _ p j swapped));
      rest = record {
        beyond = λ k l. swapped.others k (omega arith) (omega arith);
        others = λ z free. seats_other z (λ e. free (p, at, swapped.first ∙ hand ∙ sym e)) (λ e. free (j, in', swapped.second ∙ was ∙ sym e));
      };
    }

-- what stands elsewhere than in the hole is below size
pub elsewhere_below : (size : ℕ) (xs seats : List ℕ) (n j x k : ℕ) → Seated size (slice_set xs j x) seats n → k < n → k ≢ j → slice_index xs k < size
elsewhere_below size xs seats n j x k h l ne = subst (λ (y : ℕ). y < size) (get_or-set_other xs j k x 0 ne) (below_size size (slice_set xs j x) seats n k h l)
