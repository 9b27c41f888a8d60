-- How many arrivals are not settled.
use Rattle.std.proofs.Common.{◌≡◌, ℕ, zero, suc, ◌<◌, ◌≤◌, Bool, true, false, not, cond, List, [], ◌∷◌, ◌++◌, length, refl, sym, ap, ◌∙◌, subst, ⊎_elim, arith}
use Rattle.std.proofs.lemmas.Bool.{true≢false}
use Rattle.std.specs.List.{count_by}
use Rattle.std.proofs.lemmas.List.Sums.{sum_by-cons, sum_by-append}
use Rattle.network.specs.declared.counts.Counts.{Counts}
use Rattle.search.specs.declared.arrival.Arrival.{Arrival}
use Rattle.search.specs.Labels.{Labels, IsInside, arrival, is_settled}
use Rattle.search.specs.Invariants.{same}
use Rattle.search.proofs.Routes.{same_is, same_self}
use Rattle.search.proofs.Frontiers.{last_or}
use Rattle.search.proofs.Counts.{at, one_passes}

-- the arrivals at a node on the first channels, and at the first nodes
abbrev row : ℕ → ℕ → List Arrival
row u zero = []
row u (suc c) = arrival u c ∷ row u c

abbrev arrivals : ℕ → ℕ → List Arrival
arrivals zero k = []
arrivals (suc u) k = row u k ++ arrivals u k

-- how many arrivals of a network are not settled
pub left : {V : Type 0} → Counts → Labels V → ℕ
left n ls = count_by (λ x. not (is_settled (ls x))) (arrivals n.nodes n.channels)

in_row : (u c k : ℕ) → c < k → 1 ≤ count_by (same (arrival u c)) (row u k)
in_row u c zero h = absurd (omega (arith, h))
in_row u c (suc k) h =
    let total = sum_by-cons (λ z. cond (same (arrival u c) z) 1 0) (arrival u k) (row u k) in
    ⊎_elim
    (λ l. let r = in_row u c k l in omega (arith, total, r))
    (λ q. let one = ap {B = ℕ} (λ z. cond (same (arrival u c) (arrival u z)) 1 0) (sym q) ∙ ap {B = ℕ} (λ b. cond b 1 0) (same_self (arrival u c)) in omega (arith, total, one))
    (last_or k c (omega (arith, h)))

among : (u m c k : ℕ) → u < m → c < k → 1 ≤ count_by (same (arrival u c)) (arrivals m k)
among u zero c k h l = absurd (omega (arith, h))
among u (suc m) c k h l =
    let total = sum_by-append (λ z. cond (same (arrival u c) z) 1 0) (row m k) (arrivals m k) in
    ⊎_elim
    (λ below. let r = among u m c k below l in omega (arith, total, r))
    (λ q. let r = subst (λ (z : ℕ). 1 ≤ count_by (same (arrival u c)) (row z k)) q (in_row u c k l) in omega (arith, total, r))
    (last_or m u (omega (arith, h)))

module _ (p q : Arrival → Bool) (less : (y : Arrival) → q y ≡ true → p y ≡ true) where
  each_less : (y : Arrival) (b : Bool) → q y ≡ b → cond b 1 0 ≤ cond (p y) 1 0
  each_less y true e = let k = ap {B = ℕ} (λ b. cond b 1 0) (less y e) in omega (arith, k)
  each_less y false e = omega arith

  counts_less : (xs : List Arrival) → count_by q xs ≤ count_by p xs
  counts_less [] = omega arith
  counts_less (y ∷ xs) =
      let a = sum_by-cons (λ z. cond (q z) 1 0) y xs in
      let b = sum_by-cons (λ z. cond (p z) 1 0) y xs in
      let r = counts_less xs in
      let e = each_less y (q y) refl in
      omega (arith, a, b, r, e)

  counts_fall : (xs : List Arrival) (j : ℕ) → j < length xs → p (at xs j) ≡ true → q (at xs j) ≡ false → count_by q xs < count_by p xs
  counts_fall [] j h k l = absurd (omega (arith, h))
  counts_fall (y ∷ xs) zero h k l =
      let a = sum_by-cons (λ z. cond (q z) 1 0) y xs in
      let b = sum_by-cons (λ z. cond (p z) 1 0) y xs in
      let r = counts_less xs in
      let e = ap {B = ℕ} (λ b. cond b 1 0) k in
      let f = ap {B = ℕ} (λ b. cond b 1 0) l in
      omega (arith, a, b, r, e, f)
  counts_fall (y ∷ xs) (suc j) h k l =
      let a = sum_by-cons (λ z. cond (q z) 1 0) y xs in
      let b = sum_by-cons (λ z. cond (p z) 1 0) y xs in
      let r = counts_fall xs j (omega (arith, h)) k l in
      let e = each_less y (q y) refl in
      omega (arith, a, b, r, e)

-- where one more is settled, and none less, fewer are left
pub left_falls : {V : Type 0} (n : Counts) (ls ms : Labels V) (x : Arrival) → IsInside n x → is_settled (ls x) ≡ false → is_settled (ms x) ≡ true → ((y : Arrival) → is_settled (ls y) ≡ true → is_settled (ms y) ≡ true) → left n ms < left n ls
unfolding left
left_falls n ls ms x h d e kept =
    let r = one_passes (same x) (arrivals n.nodes n.channels) (among x.node n.nodes x.channel n.channels h.0 h.1) in
    let is = same_is x (at (arrivals n.nodes n.channels) r.0) r.2 in
    counts_fall (λ y. not (is_settled (ls y))) (λ y. not (is_settled (ms y))) (λ y k. stays y (is_settled (ls y)) refl (kept y) k) (arrivals n.nodes n.channels) r.0 r.1
    (ap (λ z. not (is_settled (ls z))) (sym is) ∙ ap not d) (ap (λ z. not (is_settled (ms z))) (sym is) ∙ ap not e)
  where
    stays : (y : Arrival) (b : Bool) → is_settled (ls y) ≡ b → (is_settled (ls y) ≡ true → is_settled (ms y) ≡ true) → not (is_settled (ms y)) ≡ true → not (is_settled (ls y)) ≡ true
    stays y true t k m = absurd (true≢false (sym m ∙ ap not (k t)))
    stays y false t k m = ap not t
