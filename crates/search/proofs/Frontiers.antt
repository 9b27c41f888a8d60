-- The frontier: which entries are held, and what a change of one label leaves.
use Rattle.std.proofs.Common.{◌≡◌, ℕ, ◌+◌, ◌*◌, ◌/◌, ◌%◌, ◌<◌, true, false, ◌⊎◌, not, List, Some, None, Option, slice_index, slice_index_or, ◌≢◌, refl, sym, ap, ap₂, ◌∙◌, subst, inl, inr, ⊎_elim, arith}
use Rattle.std.proofs.lemmas.Option.{none-some, same_Some}
use Rattle.std.proofs.lemmas.Bool.{true≢false, cases_lt, cases_eq}
use Rattle.std.proofs.lemmas.Bool.Decides.{nat_tests}
use Rattle.std.proofs.lemmas.Grind.{common_steps}
use Rattle.std.proofs.Math.Nat.{mul-le-mul_right}
use Rattle.network.specs.Tariffs.{arrival_entries, arrival_entry}
use Rattle.network.specs.declared.counts.Counts.{Counts}
use Rattle.cost.specs.Laws.{Ops, Laws}
use Rattle.heap.specs.Heaps.{Holds, Same, Seated, IsHeap, Beside, WasHeap, is_held}
use Rattle.heap.proofs.Sifts.{by_key_order}
use Rattle.heap.proofs.Ends.{pop_least}
use Rattle.heap.proofs.Tables.{seat, within_holds}
use Rattle.heap.proofs.Held.{held_holds, holds_held, held_same, not_held, heap_agrees}
use Rattle.search.specs.declared.arrival.Arrival.{Arrival}
use Rattle.search.specs.declared.label.Known.{Known}
use Rattle.search.specs.declared.goal.Best.{Best}
use Rattle.search.specs.declared.goal.Goal.{Goal}
use Rattle.search.specs.Goals.{is_bound}
use Rattle.network.specs.Tables.{filled}
use Rattle.search.specs.Labels.{IsInside, arrival, cost_of, is_settled, settle, labels_in}
use Rattle.search.specs.Invariants.{IsLeast, IsReached}
use Rattle.search.specs.Frontiers.{is_open, cost_or, entry_cost, entry_at_most, Listed}
use Rattle.search.specs.Orders.{IsOrder-at_most}
use Rattle.search.proofs.Rows.{known_inside, none_known, entry_apart}

-- below i, or i itself
pub last_or : (i j : ℕ) → j < i + 1 → (j < i) ⊎ (j ≡ i)
last_or i j h = ⊎_elim (λ l. inl l) (λ l. inr (omega (arith, h, l))) (cases_lt j i)

open_is : {V : Type 0} (l : Option (Known V)) (w : V) → is_settled l ≡ false → cost_of l ≡ Some w → is_open l ≡ true
open_is None w d h = absurd (none-some _ h)
open_is (Some k) w d h = ap not d

is_open_not : {V : Type 0} (l : Option (Known V)) → is_open l ≡ true → is_settled l ≡ false
is_open_not None h = refl
is_open_not (Some k) h = grind arith

settle_open : {V : Type 0} (l : Option (Known V)) → is_open (settle l) ≡ false
settle_open None = refl
settle_open (Some k) = refl

pub settle_costs : {V : Type 0} (l : Option (Known V)) (k : Known V) → settle l ≡ Some k → cost_of l ≡ Some k.cost
settle_costs None k e = absurd (none-some _ e)
settle_costs (Some h) k e = ap cost_of e

open_known : {V : Type 0} (l : Option (Known V)) → is_open l ≡ true → l ≡ None → ⊥
open_known None h e = true≢false (sym h)
open_known (Some k) h e = none-some _ (sym e)

open_costs : {V : Type 0} (l : Option (Known V)) → is_open l ≡ true → cost_of l ≡ None → ⊥
open_costs None h e = true≢false (sym h)
open_costs (Some k) h e = none-some _ (sym e)

cost_is : {V : Type 0} (o : Ops V) (l : Option (Known V)) (v : V) → cost_of l ≡ Some v → cost_or o l ≡ v
cost_is o None v e = absurd (none-some _ e)
cost_is o (Some k) v e = same_Some _ _ e

same_or : (x y : Arrival) → (x ≡ y) ⊎ (x ≢ y)
same_or x y = ⊎_elim (λ p. ⊎_elim (λ q. inl (ap₂ arrival p q)) (λ ne. inr (λ e. ne (ap (λ z. z.channel) e))) (cases_eq x.channel y.channel)) (λ ne. inr (λ e. ne (ap (λ z. z.node) e))) (cases_eq x.node y.node)

abbrev entry : Counts → Arrival → ℕ
entry n x = arrival_entry n x.node x.channel

-- each entry is that of an arrival
entry_of : (n : Counts) (e : ℕ) → e < arrival_entries n → (x : Arrival) × IsInside n x × (entry n x ≡ e)
entry_of n e h =
    let some : 0 < n.channels = ⊎_elim (λ l. l) (λ l. let z : n.channels ≡ 0 = omega (arith, l) in absurd (let q = subst (λ (c : ℕ). e < n.nodes * c) z h in omega (arith, q))) (cases_lt 0 n.channels) in
    let split : n.channels * (e / n.channels) + e % n.channels ≡ e = omega arith in
    let small : e % n.channels < n.channels = omega arith in
    let row : e / n.channels < n.nodes = ⊎_elim (λ l. l) (λ l. let m = mul-le-mul_right n.channels l in absurd (omega (arith, m, split, h))) (cases_lt (e / n.channels) n.nodes) in
    (arrival (e / n.channels) (e % n.channels), (row, small), omega (arith, split))

-- an open arrival's label stands in its entry
shown : {V : Type 0} (n : Counts) (table : List (Option (Known V))) (x : Arrival) → IsInside n x → slice_index_or table (entry n x) None ≡ labels_in n table x
shown n table x h = grind (arith, common_steps, nat_tests)

-- what is reached at no more than v is at no more than what costs more
pub bound_more : {V : Type 0} {o : Ops V} → Laws o → (b : Option (Best V)) (v w : V) → is_bound o b v ≡ true → o.at_most v w ≡ true → is_bound o b w ≡ true
bound_more laws None v w h m = h
bound_more laws (Some b) v w h m = laws.transitive b.cost v w h m

module _ {V : Type 0} (n : Counts) (table : List (Option (Known V))) (slots seats : List ℕ) (c : ℕ) (listed : Listed n (labels_in n table) slots seats c) where
  -- where none is held, none is open
  pub none_reached : (o : Ops V) (h : Goal V) → c ≡ 0 → IsReached o (labels_in n table) h
  none_reached o h z y w d k =
      let opened = open_is (labels_in n table y) w d k in
      let inside = known_inside n table y (open_known _ opened) in
      let held = listed y inside ∙ opened in
      grind (arith, nat_tests, held, z)

  module _ (seated : Seated (arrival_entries n) slots seats c) where
    -- what is held is the entry of an open arrival
    held_open : (e : ℕ) → Holds slots c e → (x : Arrival) × IsInside n x × (entry n x ≡ e) × (is_open (labels_in n table x) ≡ true)
    held_open e h =
        let s = seat (arrival_entries n) slots seats c e seated h in
        let r = entry_of n e s.0 in
        (r.0, r.1, r.2, sym (listed r.0 r.1) ∙ holds_held (arrival_entries n) slots seats c (entry n r.0) seated (subst (Holds slots c) (sym r.2) h))

    pub open_held : (x : Arrival) → IsInside n x → is_open (labels_in n table x) ≡ true → Holds slots c (entry n x)
    open_held x h e = held_holds (arrival_entries n) slots seats c (entry n x) seated (listed x h ∙ e)

    pub entry_open : (x : Arrival) (e : ℕ) → IsInside n x → entry n x ≡ e → Holds slots c e → is_open (labels_in n table x) ≡ true
    entry_open x e h q held = sym (listed x h) ∙ holds_held (arrival_entries n) slots seats c (entry n x) seated (subst (Holds slots c) (sym q) held)

    -- what is held has its label in the table
    pub entry_shows : (x : Arrival) (e : ℕ) → IsInside n x → entry n x ≡ e → Holds slots c e → cost_of (labels_in n table x) ≡ cost_of (slice_index_or table e None)
    entry_shows x e h q held = ap cost_of (sym (shown n table x h) ∙ ap (λ i. slice_index_or table i None) q)

    -- an arrival that is unknown is not held
    pub unknown_fresh : (x : Arrival) (e : ℕ) → IsInside n x → e ≡ entry n x → labels_in n table x ≡ None → Holds slots c e → ⊥
    unknown_fresh x e h q none held = open_known _ (entry_open x e h (sym q) held) none

    -- an entry that is at most every other is that of a least open arrival
    pub least_is : (o : Ops V) (x : Arrival) (e : ℕ) → IsInside n x → entry n x ≡ e → Holds slots c e → ((y : ℕ) → Holds slots c y → entry_at_most o table e y ≡ true) → (v : V) → cost_of (labels_in n table x) ≡ Some v → IsLeast o (labels_in n table) x v
    least_is o x e h q held least v known =
        let opened = entry_open x e h q held in
        record {
          known = known;
          unsettled = is_open_not _ opened;
          least = λ y w d k.
              let other = open_is (labels_in n table y) w d k in
              let inside = known_inside n table y (open_known _ other) in
              ap₂ o.at_most
              (sym (cost_is o _ v (sym (entry_shows x e h q held) ∙ known)))
              (sym (cost_is o _ w (ap cost_of (shown n table y inside) ∙ k)))
              ∙ least (entry n y) (open_held y inside other);
        }

    -- the entry at the top is that of a least open arrival
    pub top_open : 0 < c → cost_of (slice_index_or table (slice_index slots 0) None) ≡ None → ⊥
    top_open some is =
        let r = held_open (slice_index slots 0) (0, some, refl) in
        open_costs (labels_in n table r.0) r.3 (ap cost_of (sym (shown n table r.0 r.1) ∙ ap (λ i. slice_index_or table i None) r.2) ∙ is)

    pub top_least : (o : Ops V) → Laws o → IsHeap (entry_at_most o table) slots c → 0 < c → (v : V) → cost_of (slice_index_or table (slice_index slots 0) None) ≡ Some v → (x : Arrival) × IsLeast o (labels_in n table) x v
    top_least o laws heap some v is =
        let r = held_open (slice_index slots 0) (0, some, refl) in
        let label = sym (shown n table r.0 r.1) ∙ ap (λ i. slice_index_or table i None) r.2 in
        (r.0, least_is o r.0 (slice_index slots 0) r.1 r.2 (0, some, refl) (pop_least (entry_at_most o table) (by_key_order (entry_cost o table) o.at_most (IsOrder-at_most laws)) slots c heap) v (ap cost_of label ∙ is))

    -- so where the best at a goal costs no more, it costs no more than any that is open
    pub top_reached : (o : Ops V) → Laws o → IsHeap (entry_at_most o table) slots c → 0 < c → (h : Goal V) (v : V) → cost_of (slice_index_or table (slice_index slots 0) None) ≡ Some v → is_bound o h.best v ≡ true → IsReached o (labels_in n table) h
    top_reached o laws heap some h v is bound y w d k =
        let r = top_least o laws heap some v is in
        bound_more laws h.best v w bound (r.1.least y w d k)

    -- the label of x is written, and no other
    module _ (table' : List (Option (Known V))) (x : Arrival) (hx : IsInside n x) (others : (y : Arrival) → y ≢ x → labels_in n table' y ≡ labels_in n table y) where
      kept : (e : ℕ) → Holds slots c e → e ≢ entry n x → slice_index_or table' e None ≡ slice_index_or table e None
      kept e held ne =
          let r = held_open e held in
          let same = others r.0 (λ q. ne (sym r.2 ∙ ap (entry n) q)) in
          ap (λ i. slice_index_or table' i None) (sym r.2) ∙ shown n table' r.0 r.1 ∙ same ∙ sym (shown n table r.0 r.1) ∙ ap (λ i. slice_index_or table i None) r.2

      -- a heap of what was held, without x, stays one
      pub heap_kept : (o : Ops V) (ys : List ℕ) (m : ℕ) → ((e : ℕ) → Holds ys m e → Holds slots c e × (e ≢ entry n x)) → IsHeap (entry_at_most o table) ys m → IsHeap (entry_at_most o table') ys m
      heap_kept o ys m still heap =
          heap_agrees (entry_at_most o table) (entry_at_most o table') ys m
          (λ a b p q t. let f = still a p in let g = still b q in ap₂ o.at_most (ap (cost_or o) (kept a f.0 f.1)) (ap (cost_or o) (kept b g.0 g.1)) ∙ t) heap

      other_entry : (y : Arrival) → IsInside n y → y ≢ x → entry n y ≢ entry n x
      other_entry y hy ne = entry_apart n y x hy hx ne

      module _ (ys seats' : List ℕ) (m : ℕ) (sits : Seated (arrival_entries n) ys seats' m) where
        -- an arrival is settled, and held no more
        pub listed_settled : (e : ℕ) → entry n x ≡ e → Beside ys m e slots c → (Holds ys m e → ⊥) → labels_in n table' x ≡ settle (labels_in n table x) → Listed n (labels_in n table') ys seats' m
        listed_settled e q beside gone is y hy = ⊎_elim
            (λ d. ap (λ z. is_held ys seats' m (entry n z)) d
            ∙ not_held (arrival_entries n) ys seats' m (entry n x) sits (λ h. gone (subst (Holds ys m) q h))
            ∙ sym (settle_open (labels_in n table x)) ∙ ap is_open (sym is) ∙ ap (λ z. is_open (labels_in n table' z)) (sym d))
            (λ ne. held_same (arrival_entries n) slots seats ys seats' c m (entry n y) seated sits
            (λ h. ⊎_elim (λ d. absurd (other_entry y hy ne (d ∙ sym q))) (λ k. k) (beside.only (entry n y) h))
            (beside.kept (entry n y))
            ∙ listed y hy ∙ ap is_open (sym (others y ne)))
            (same_or y x)

        -- an arrival becomes known, and is held
        pub listed_added : (e : ℕ) (k : Known V) → e ≡ entry n x → Beside slots c e ys m → k.settled ≡ false → labels_in n table' x ≡ Some k → Listed n (labels_in n table') ys seats' m
        listed_added e k q beside d is y hy = ⊎_elim
            (λ p. ap (λ z. is_held ys seats' m (entry n z)) p
            ∙ holds_held (arrival_entries n) ys seats' m (entry n x) sits (subst (Holds ys m) q beside.new)
            ∙ sym (ap not d) ∙ ap is_open (sym is) ∙ ap (λ z. is_open (labels_in n table' z)) (sym p))
            (λ ne. held_same (arrival_entries n) slots seats ys seats' c m (entry n y) seated sits
            (beside.kept (entry n y))
            (λ h. ⊎_elim (λ p. absurd (other_entry y hy ne (p ∙ q))) (λ k. k) (beside.only (entry n y) h))
            ∙ listed y hy ∙ ap is_open (sym (others y ne)))
            (same_or y x)

        -- an open arrival stays so
        pub listed_still : (k : Known V) → Same slots c ys m → is_open (labels_in n table x) ≡ true → k.settled ≡ false → labels_in n table' x ≡ Some k → Listed n (labels_in n table') ys seats' m
        listed_still k same opened d is y hy =
            held_same (arrival_entries n) slots seats ys seats' c m (entry n y) seated sits (within_holds _ _ _ _ same.0 (entry n y)) (within_holds _ _ _ _ same.1 (entry n y))
            ∙ listed y hy
            ∙ ⊎_elim
            (λ p. ap (λ z. is_open (labels_in n table z)) p ∙ opened ∙ sym (ap not d) ∙ ap is_open (sym is) ∙ ap (λ z. is_open (labels_in n table' z)) (sym p))
            (λ ne. ap is_open (sym (others y ne)))
            (same_or y x)

      -- where it costs no more than before, its entry may have to rise
      pub was_heap : (o : Ops V) → Laws o → (e : ℕ) (k : Known V) → e ≡ entry n x → is_open (labels_in n table x) ≡ true → k.settled ≡ false → labels_in n table' x ≡ Some k → o.at_most k.cost (cost_or o (labels_in n table x)) ≡ true
          → IsHeap (entry_at_most o table) slots c → WasHeap (entry_at_most o table') slots c e
      was_heap o laws e k q opened d is less heap =
          let old : slice_index_or table e None ≡ labels_in n table x = ap (λ i. slice_index_or table i None) q ∙ shown n table x hx in
          let new : slice_index_or table' e None ≡ Some k = ap (λ i. slice_index_or table' i None) q ∙ shown n table' x hx ∙ is in
          record {
            old = entry_at_most o table;
            order = by_key_order (entry_cost o table) o.at_most (IsOrder-at_most laws);
            lowers = record {
              others = λ a b p r u v t. ap₂ o.at_most (ap (cost_or o) (kept a p (λ z. u (z ∙ sym q)))) (ap (cost_or o) (kept b r (λ z. v (z ∙ sym q)))) ∙ t;
              less = λ b r v t. ap₂ o.at_most (ap (cost_or o) new) (ap (cost_or o) (kept b r (λ z. v (z ∙ sym q)))) ∙ laws.transitive _ _ _ less (ap (λ l. o.at_most (cost_or o l) (entry_cost o table b)) (sym old) ∙ t);
            };
            heap = heap;
          }

-- where the table was cleared, nothing is held
pub none_listed : {V : Type 0} (n : Counts) (table : List (Option (Known V))) (e : ℕ) (slots seats : List ℕ) → e ≡ arrival_entries n → Listed n (labels_in n (filled e None table)) slots seats 0
none_listed n table e slots seats q x h = let none = ap is_open (none_known n table e x q) in grind (arith, nat_tests, none)
