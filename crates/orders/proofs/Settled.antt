-- An offer that is settled at once.
use Rattle.std.proofs.Common.{[], ◌∷◌, ◌≡◌, ℕ, ◌<◌, ◌≤◌, eqb, true, List, length, None, Some, Ok, Err, Option, Result, refl, sym, ap, ◌∙◌, subst, slice_set, arith}
use Rattle.std.proofs.lemmas.Bool.{cond-true, eq-eqb}
use Rattle.std.proofs.lemmas.Grind.{get_or-set_at}
use Rattle.fault.specs.declared.book.BookFault.{BookFault}
use Rattle.network.specs.declared.counts.Counts.{Counts}
use Rattle.network.specs.declared.step.Step.{Step}
use Rattle.network.specs.Net.{Net}
use Rattle.network.specs.Steps.{Within, on}
use Rattle.cost.specs.Laws.{Ops}
use Rattle.semilightpath.specs.Scenes.{Scene}
use Rattle.semilightpath.specs.Paths.{begin, IsUsable}
use Rattle.semilightpath.specs.Cheapest.{IsCheapest}
use Rattle.records.specs.declared.circuit.Circuit.TheVariants as circuit
use Rattle.records.specs.Chains.{channel_at, circuit_count}
use Rattle.records.specs.Changes.{taken, given_back, route_along}
use Rattle.records.proofs.Undone.{given_taken, freed_circuit}
use Rattle.book.specs.declared.offer.Offer.{Offer}
use Rattle.book.specs.declared.offer.Offered.{Offered}
use Rattle.book.specs.State.{Tables, lent}
use Rattle.book.specs.Changes.{takes, lights, frees, changed, changed_by, circuit_in, path_in, Makes}
use Rattle.book.specs.Refusing.{is_offered, offer_refusal, spend_refusal}
use Rattle.book.specs.Answering.{scene_in, IsOffer, OfferAnswers, offer_change, spent, unrefused}
use Rattle.book.proofs.Making.{makes_then}
use Rattle.book.proofs.Offered.{usable_on, usable_free}
use Rattle.book.proofs.Ordered.{InOrder, offer_in_order}
use Rattle.orders.specs.Orders.{Ordered, is_refused, has_none, lit_changes}

-- an offer that is refused
pub refused_order : {V : Type 0} (o : Ops V) (g : Scene) (m c s t : ℕ) (p : List Step) (due : Option BookFault) (r : Result (Offered V) BookFault) (f : BookFault) (P : List Step → V → Type 0) (Refused : BookFault → Type 0)
    → OfferAnswers o g m c s t p due r → r ≡ Err f → Refused f → Ordered o g s t due P Refused
refused_order {V} o g m c s t p (Some h) r f P Refused a e d = is_refused h refl (subst Refused (same_err f h (sym e ∙ a)) d)
  where
    err : BookFault → Result (Offered V) BookFault
    err i = Err i

    same_err : (i l : BookFault) → err i ≡ err l → i ≡ l
    same_err i l e = cc
refused_order {V} o g m c s t p None r f P Refused a e d =
    let b = subst (OfferAnswers o g m c s t p None) e a in
    has_none refl b.1 (subst Refused b.0 d)

-- an offer that is made
pub made_order : {V : Type 0} (o : Ops V) (g : Scene) (m c s t : ℕ) (p : List Step) (due : Option BookFault) (r : Result (Offered V) BookFault) (q : Offered V)
    → OfferAnswers o g m c s t p due r → r ≡ Ok q → (due ≡ None) × IsOffer o g m c s t p q
made_order {V} o g m c s t p (Some h) r q a e = absurd (ok_err q h (sym e ∙ a))
  where
    ok_err : (i : Offered V) (l : BookFault) → Ok i ≡ Err l → ⊥
    ok_err i l e = cc
made_order o g m c s t p None r q a e = (refl, subst (OfferAnswers o g m c s t p None) e a)

-- what is spent is not refused
pub was_spent : {A : Type 0} (z : Option BookFault) (o : Offer) (x y : A) (r : Result A (BookFault × Offer)) → r ≡ spent z o x → r ≡ Ok y → z ≡ None
was_spent None o x y r e f = refl
was_spent {A} (Some h) o x y r e f = absurd (ok_err y (h, o) (sym f ∙ e))
  where
    ok_err : (i : A) (l : BookFault × Offer) → Ok i ≡ Err l → ⊥
    ok_err i l e = cc

-- what an offer just made is spent for is not refused
pub not_refused : {V : Type 0} (n : Counts) (m m' c s t : ℕ) (x y : Tables) (p : List Step) (r : Result (Offered V) BookFault) (q : Offered V) → r ≡ Ok q → y ≡ changed_by n (offer_change c s t p r) x → m' ≡ m → q.offer.mark ≡ m → q.offer.circuit ≡ c → q.offer.circuit < circuit_count → circuit_count ≤ length x.circuits
    → spend_refusal m' y q.offer ≡ None
not_refused n m m' c s t x y p r q made took same mark its known rows =
    cond-true (eqb q.offer.mark m') _ _ (eq-eqb q.offer.mark m' (mark ∙ sym same)) ∙ cond-true (is_offered (circuit_in y q.offer.circuit)) _ _ (ap is_offered there)
  where
    there : circuit_in y q.offer.circuit ≡ circuit.Offered (route_along s t p)
    there =
        ap (λ i. circuit_in i q.offer.circuit) (took ∙ ap (λ i. changed_by n (offer_change c s t p i) x) made)
        ∙ get_or-set_at x.circuits c q.offer.circuit (circuit.Offered (route_along s t p)) circuit.Free its (omega (arith, known, rows, its))

-- so it is not answered with a refusal
pub never_back : {A : Type 0} (z : Option BookFault) (o : Offer) (x : A) (r : Result A (BookFault × Offer)) (f : BookFault × Offer) → r ≡ spent z o x → z ≡ None → r ≡ Err f → ⊥
never_back {A} z o x r f e none is = ok_err x f (sym (e ∙ ap (λ i. spent i o x) none) ∙ is)
  where
    ok_err : (i : A) (l : BookFault × Offer) → Ok i ≡ Err l → ⊥
    ok_err i l e = cc

-- the tables after an offer that was made, and after what it was spent for
module _ {V : Type 0} (n n' : Counts) (c k s t : ℕ) (x y z : Tables) (r : Result (Offered V) BookFault) (q : Offered V) (due : Option BookFault) (p : List Step) (made : r ≡ Ok q) (took : y ≡ changed_by n (offer_change c s t p r) x) (same : n' ≡ n) (its : k ≡ c) (none : due ≡ None) where
  pub took_so : y ≡ changed n (takes c s t p) x
  took_so = took ∙ ap (λ i. changed_by n (offer_change c s t p i) x) made

  pub then_lit : Makes n (offer_change c s t p r) x y → Makes n' (unrefused due (lights k)) y z → Makes n (lit_changes c s t p) x z
  then_lit a b =
      makes_then n (takes c s t p ∷ []) (lights c ∷ []) x y z (subst (λ i. Makes n (offer_change c s t p i) x y) made a)
      (subst (λ i. Makes i (lights c ∷ []) y z) same (subst (λ i. Makes n' (lights i ∷ []) y z) its (subst (λ i. Makes n' (unrefused i (lights k)) y z) none b)))

  pub then_freed : z ≡ changed_by n' (unrefused due (frees k)) y → z ≡ changed n (frees c) y
  then_freed e = e ∙ ap (λ i. changed_by n' (unrefused i (frees k)) y) none ∙ ap (λ i. changed i (frees k) y) same ∙ ap (λ i. changed n (frees i) y) its

-- a cheapest path that is taken and given back leaves all as it was
pub as_before : {V : Type 0} (o : Ops V) (w : Net) (n : Counts) (c s t room : ℕ) (x y z : Tables) (p : List Step) (v : V) → offer_refusal n w.counts x c s t room ≡ None → IsCheapest o (scene_in w x) s t p v
    → p ≡ path_in n y c → y ≡ changed n (takes c s t p) x → z ≡ changed n (frees c) y → z ≡ x
as_before o w n c s t room x y z p v due best is took freed =
    freed ∙ ap (λ i. lent (given_back n i y.channels) (slice_set y.circuits c circuit.Free) y.spans) (sym is)
    ∙ ap (λ i. lent (given_back n p i.channels) (slice_set i.circuits c circuit.Free) i.spans) took
    ∙ ap (λ i. lent i (slice_set (slice_set x.circuits c (circuit.Offered (route_along s t p))) c circuit.Free) x.spans) channels
    ∙ ap (λ i. lent x.channels i x.spans) (freed_circuit x.circuits c (circuit.Offered (route_along s t p)) order.free)
  where
    order : InOrder n w.counts x c s t
    order = offer_in_order n w.counts x c s t room due

    usable : (u : Step) → on u p ≡ true → IsUsable (scene_in w x) u
    usable = usable_on (scene_in w x) (begin s) p best.path.1

    channels : given_back n p (taken n c p x.channels) ≡ x.channels
    channels =
        given_taken n c p x.channels (λ u h. subst (λ i. Within i u) (sym order.counts) (usable u h).0) best.once
        (λ u h. ap (λ i. channel_at i x.channels u) order.counts ∙ usable_free w x u (usable u h))

-- an offer that is refused changes nothing
pub unmade : {V : Type 0} (n : Counts) (c s t : ℕ) (p : List Step) (x y : Tables) (r : Result (Offered V) BookFault) (f : BookFault) → r ≡ Err f → y ≡ changed_by n (offer_change c s t p r) x → y ≡ x
unmade n c s t p x y r f e h = h ∙ ap (λ i. changed_by n (offer_change c s t p i) x) e
