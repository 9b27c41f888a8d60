-- The path that the labels lead along is the one that is read off them.
use Rattle.std.proofs.Common.{◌≡◌, ℕ, zero, suc, ◌+◌, ◌-◌, ◌≤◌, Bool, true, false, not, ◌&&◌, ◌||◌, List, [], ◌∷◌, ◌++◌, length, map, Some, append-nil, append_assoc, refl, sym, ap, ap₂, ◌∙◌, subst, arith}
use Rattle.std.proofs.lemmas.Bool.{true≢false, and_parts, or_parts, not-true}
use Rattle.std.specs.List.{AllByRecursion, IsDistinct}
use Rattle.std.proofs.lemmas.Bool.Decides.{nat_tests}
use Rattle.std.proofs.lemmas.List.{length-map}
use Rattle.std.proofs.Math.Nat.{zero-add}
use Rattle.std.proofs.Math.Bool.{or-true}
use Rattle.network.specs.Net.{Net}
use Rattle.network.specs.Steps.{step, on, distinct}
use Rattle.network.specs.Steps as steps
use Rattle.network.specs.Tariffs.{arrival_entries}
use Rattle.network.specs.declared.step.Step.{Step}
use Rattle.semilightpath.specs.declared.point.Point.{Point}
use Rattle.semilightpath.specs.Paths.{begin, past}
use Rattle.search.specs.declared.arrival.Arrival.{Arrival}
use Rattle.search.specs.Labels.{Labels, IsInside, back, ending, trail, arrival_of}
use Rattle.search.specs.Invariants.{same, arrives, apart, Leads}
use Rattle.search.proofs.Routes.{same_self}
use Rattle.search.proofs.Counting.{few_arrivals}

module _ {V : Type 0} (w : Net) (ls : Labels V) where
  trail_leads : (b : Point) (p : List Step) (a : Point) (n : ℕ) → Leads w ls b p a → trail ls (length p + n) a ≡ trail ls n b ++ p
  trail_leads b [] a n h = ap (λ m. trail ls m a) (zero-add n) ∙ ap (trail ls n) (sym h) ∙ sym (append-nil (trail ls n b))
  trail_leads b (e ∷ p) a n h =
      let more : suc (length p) + n ≡ length p + suc n = omega arith in
      ap (λ m. trail ls m a) more
      ∙ trail_leads (past w e) p a (suc n) h.1
      ∙ ap (λ z. ending z (trail ls n) ++ p) h.0
      ∙ append_assoc (trail ls n b) (e ∷ []) p

  trail_begin : (s n : ℕ) → trail ls n (begin s) ≡ []
  trail_begin s zero = refl
  trail_begin s (suc n) = refl

  -- the path is read off whole, where there are labels enough
  pub trail_is : (s : ℕ) (p : List Step) (a : Point) (n : ℕ) → Leads w ls (begin s) p a → length p ≤ n → trail ls n a ≡ p
  trail_is s p a n h le =
      let m : n ≡ length p + (n - length p) = omega arith in
      ap (λ z. trail ls z a) m ∙ trail_leads (begin s) p a (n - length p) h ∙ ap (λ z. z ++ p) (trail_begin s (n - length p))

-- labels that show as much lead along the same path
pub leads_shown : {V : Type 0} (w : Net) (ls ms : Labels V) (b : Point) (p : List Step) (a : Point) → ((x : Arrival) (r : Step × Point) → back (ls x) ≡ Some r → back (ms x) ≡ Some r) → Leads w ls b p a → Leads w ms b p a
leads_shown w ls ms b [] a shows h = h
leads_shown w ls ms b (e ∷ p) a shows h = (shows (arrival_of w e) (e, b) h.0, leads_shown w ls ms (past w e) p a shows h.1)

step_is : (e d : Step) → steps.same e d ≡ true → e ≡ d
step_is e d h =
    let p : e.span ≡ d.span = grind (arith, nat_tests) in
    let q : e.channel ≡ d.channel = grind (arith, nat_tests) in
    ap₂ step p q

-- a step on the path arrives where the path arrives
on_arrives : (w : Net) (e : Step) (p : List Step) → on e p ≡ true → arrives w (arrival_of w e) p ≡ true
on_arrives w e [] h = h
on_arrives w e (d ∷ p) h = go (steps.same e d) refl h (on_arrives w e p)
  where
    go : (b : Bool) → steps.same e d ≡ b → (b || on e p) ≡ true → (on e p ≡ true → arrives w (arrival_of w e) p ≡ true) → (same (arrival_of w e) (arrival_of w d) || arrives w (arrival_of w e) p) ≡ true
    go true t k rest =
        let q : same (arrival_of w e) (arrival_of w d) ≡ true = ap (λ z. same (arrival_of w e) (arrival_of w z)) (sym (step_is e d t)) ∙ same_self (arrival_of w e) in
        ap (λ z. z || arrives w (arrival_of w e) p) q
    go false t k rest = ap (λ z. same (arrival_of w e) (arrival_of w d) || z) (rest k) ∙ or-true (same (arrival_of w e) (arrival_of w d))

-- a path that arrives nowhere twice takes no step twice
pub distinct_apart : (w : Net) (p : List Step) → apart w p ≡ true → distinct p ≡ true
distinct_apart w [] h = refl
distinct_apart w (e ∷ p) h =
    let k = and_parts (not (arrives w (arrival_of w e) p)) (apart w p) h in
    ap₂ (λ a b. not a && b) (not_on (on e p) refl k.0) (distinct_apart w p k.1)
  where
    not_on : (b : Bool) → on e p ≡ b → not (arrives w (arrival_of w e) p) ≡ true → on e p ≡ false
    not_on true t k = absurd (true≢false (sym k ∙ ap not (on_arrives w e p t)))
    not_on false t k = t

arrivals_apart : (w : Net) (x : Arrival) (p : List Step) → arrives w x p ≡ false → AllByRecursion (λ y. same x y ≡ false) (map (arrival_of w) p)
arrivals_apart w x [] h = tt
arrivals_apart w x (e ∷ p) h = let k = or_parts (same x (arrival_of w e)) (arrives w x p) h in (k.0, arrivals_apart w x p k.1)

arrivals_distinct : (w : Net) (p : List Step) → apart w p ≡ true → IsDistinct same (map (arrival_of w) p)
unfolding IsDistinct
arrivals_distinct w [] h = tt
arrivals_distinct w (e ∷ p) h = let k = and_parts (not (arrives w (arrival_of w e) p)) (apart w p) h in (arrivals_apart w (arrival_of w e) p (not-true (arrives w (arrival_of w e) p) k.0), arrivals_distinct w p k.1)

arrivals_inside : {V : Type 0} (w : Net) (ls : Labels V) (b : Point) (p : List Step) (a : Point) → ((x : Arrival) (r : Step × Point) → back (ls x) ≡ Some r → IsInside w.counts x)
    → Leads w ls b p a → AllByRecursion (IsInside w.counts) (map (arrival_of w) p)
arrivals_inside w ls b [] a inside h = tt
arrivals_inside w ls b (e ∷ p) a inside h = (inside (arrival_of w e) (e, b) h.0, arrivals_inside w ls (past w e) p a inside h.1)

-- such a path has at most as many steps as the network has arrivals
pub path_short : {V : Type 0} (w : Net) (ls : Labels V) (b : Point) (p : List Step) (a : Point) → ((x : Arrival) (r : Step × Point) → back (ls x) ≡ Some r → IsInside w.counts x)
    → Leads w ls b p a → apart w p ≡ true → length p ≤ arrival_entries w.counts
path_short w ls b p a inside h k =
    subst (λ (m : ℕ). m ≤ arrival_entries w.counts) (length-map p (arrival_of w)) (few_arrivals w.counts (map (arrival_of w) p) (arrivals_inside w ls b p a inside h) (arrivals_distinct w p k))
