-- A path with one step more.
use Rattle.std.proofs.Common.{◌≡◌, ℕ, Bool, true, false, not, ◌&&◌, ◌||◌, ◌⊎◌, List, [], ◌∷◌, ◌++◌, Some, append-nil, refl, sym, ap, ap₂, ◌∙◌, subst, inl, inr, arith}
use Rattle.std.proofs.lemmas.Bool.{true≢false, and_parts, or_parts}
use Rattle.std.specs.List.{AllByRecursion}
use Rattle.std.proofs.lemmas.List.Sums.{fold-append}
use Rattle.std.proofs.lemmas.Bool.Decides.{nat_tests}
use Rattle.std.proofs.Math.Bool.{or-false, or_assoc}
use Rattle.network.specs.Net.{Net}
use Rattle.network.specs.declared.step.Step.{Step}
use Rattle.cost.specs.Laws.{Ops}
use Rattle.cost.specs.Charges.{after, after_all}
use Rattle.semilightpath.specs.declared.point.Point.{Point}
use Rattle.semilightpath.specs.Scenes.{Scene}
use Rattle.semilightpath.specs.Paths.{begin, past, GoesOn, Goes, end_of}
use Rattle.semilightpath.specs.Costs.{step_charges, charges, after_step}
use Rattle.search.specs.declared.arrival.Arrival.{Arrival}
use Rattle.search.specs.Labels.{Labels, arrival, back, arrival_of}
use Rattle.search.specs.Invariants.{same, arrives, apart, Leads, Route}

goes_more : (g : Scene) (a : Point) (p : List Step) (e : Step) → Goes g a p → GoesOn g (end_of g.net a p) e → Goes g a (p ++ e ∷ [])
goes_more g a [] e h k = (k, tt)
goes_more g a (d ∷ p) e h k = (h.0, goes_more g (past g.net d) p e h.1 k)

ends_more : (w : Net) (a : Point) (p : List Step) (e : Step) → end_of w a (p ++ e ∷ []) ≡ past w e
ends_more w a [] e = refl
ends_more w a (d ∷ p) e = ends_more w (past w d) p e

pub costs_more : {V : Type 0} (o : Ops V) (g : Scene) (v : V) (a : Point) (p : List Step) (e : Step) → after_all o v (charges g a.entered (p ++ e ∷ [])) ≡ after_step o g (end_of g.net a p).entered (after_all o v (charges g a.entered p)) e
costs_more o g v a [] e = ap (λ cs. after_all o v cs) (append-nil (step_charges g a.entered e))
costs_more o g v a (d ∷ p) e =
    fold-append (after o) v (step_charges g a.entered d) (charges g (Some d.channel) (p ++ e ∷ []))
    ∙ costs_more o g (after_step o g a.entered v d) (past g.net d) p e
    ∙ ap (λ u. after_step o g (end_of g.net (past g.net d) p).entered u e) (sym (fold-append (after o) v (step_charges g a.entered d) (charges g (Some d.channel) p)))

leads_more : {V : Type 0} (w : Net) (ls : Labels V) (b : Point) (p : List Step) (a : Point) (e : Step) → Leads w ls b p a → back (ls (arrival_of w e)) ≡ Some (e, a) → Leads w ls b (p ++ e ∷ []) (past w e)
leads_more w ls b [] a e h k = (k ∙ ap (λ z. Some (e, z)) (sym h), refl)
leads_more w ls b (d ∷ p) a e h k = (h.0, leads_more w ls (past w d) p a e h.1 k)

over_more : (P : Step → Type 0) (p : List Step) (e : Step) → AllByRecursion P p → P e → AllByRecursion P (p ++ e ∷ [])
over_more P [] e h k = (k, tt)
over_more P (d ∷ p) e h k = (h.0, over_more P p e h.1 k)

arrives_more : (w : Net) (x : Arrival) (p : List Step) (e : Step) → arrives w x (p ++ e ∷ []) ≡ (arrives w x p || same x (arrival_of w e))
arrives_more w x [] e = or-false (same x (arrival_of w e))
arrives_more w x (d ∷ p) e = ap (λ z. same x (arrival_of w d) || z) (arrives_more w x p e) ∙ sym (or_assoc (same x (arrival_of w d)) (arrives w x p) (same x (arrival_of w e)))

pub same_turned : (x y : Arrival) → same x y ≡ same y x
same_turned x y = grind (arith, nat_tests)

-- a path that goes on to where it has not been
apart_step : (longer before now : Bool) (rest : Bool) → longer ≡ (before || now) → not before ≡ true → now ≡ false → rest ≡ true → (not longer && rest) ≡ true
apart_step longer before now rest e h k t = grind arith

apart_more : (w : Net) (p : List Step) (e : Step) → apart w p ≡ true → arrives w (arrival_of w e) p ≡ false → apart w (p ++ e ∷ []) ≡ true
apart_more w [] e h k = refl
apart_more w (d ∷ p) e h k =
    let old = and_parts (not (arrives w (arrival_of w d) p)) (apart w p) h in
    let new = or_parts (same (arrival_of w e) (arrival_of w d)) (arrives w (arrival_of w e) p) k in
    apart_step (arrives w (arrival_of w d) (p ++ e ∷ [])) (arrives w (arrival_of w d) p) (same (arrival_of w d) (arrival_of w e)) (apart w (p ++ e ∷ []))
    (arrives_more w (arrival_of w d) p e) old.0 (same_turned (arrival_of w d) (arrival_of w e) ∙ new.0) (apart_more w p e old.1 new.1)

pub leads_kept : {V : Type 0} (w : Net) (ls ms : Labels V) (b : Point) (p : List Step) (a : Point) → AllByRecursion (λ e. back (ms (arrival_of w e)) ≡ back (ls (arrival_of w e))) p → Leads w ls b p a → Leads w ms b p a
leads_kept w ls ms b [] a kept h = h
leads_kept w ls ms b (e ∷ p) a kept h = (kept.0 ∙ h.0, leads_kept w ls ms (past w e) p a kept.1 h.1)

pub over_map : {P Q : Step → Type 0} (p : List Step) → ((e : Step) → P e → Q e) → AllByRecursion P p → AllByRecursion Q p
over_map [] f h = tt
over_map (e ∷ p) f h = (f e h.0, over_map p f h.1)

-- the same path, over other labels that lead along it too
pub route_map : {V : Type 0} {o : Ops V} {g : Scene} {s : ℕ} {ls ms : Labels V} {P Q : Arrival → Type 0} {a : Point} {v : V}
    → ((y : Arrival) → P y → Q y) → ((y : Arrival) → P y → back (ms y) ≡ back (ls y)) → Route o g s ls P a v → Route o g s ms Q a v
route_map {V} {o} {g} {s} {ls} {ms} f kept r = record {
  path = r.path;
  goes = r.goes;
  ends = r.ends;
  costs = r.costs;
  leads = leads_kept g.net ls ms (begin s) r.path _ (over_map r.path (λ e h. kept (arrival_of g.net e) h) r.over) r.leads;
  over = over_map r.path (λ e h. f (arrival_of g.net e) h) r.over;
  once = r.once;
}

pub same_is : (x y : Arrival) → same x y ≡ true → x ≡ y
same_is x y h =
    let p : x.node ≡ y.node = grind (arith, nat_tests) in
    let q : x.channel ≡ y.channel = grind (arith, nat_tests) in
    ap₂ arrival p q

pub same_self : (x : Arrival) → same x x ≡ true
same_self x = grind (arith, nat_tests)

pub not_same : (x y : Arrival) → (x ≡ y → ⊥) → same x y ≡ false
not_same x y n = go (same x y) refl
  where
    go : (b : Bool) → same x y ≡ b → same x y ≡ false
    go true e = absurd (n (same_is x y e))
    go false e = e

pub cases_same : (x y : Arrival) → (x ≡ y) ⊎ (x ≡ y → ⊥)
cases_same x y = go (same x y) refl
  where
    go : (b : Bool) → same x y ≡ b → (x ≡ y) ⊎ (x ≡ y → ⊥)
    go true e = inl (same_is x y e)
    go false e = inr (λ q. true≢false (sym (same_self x) ∙ ap (same x) q ∙ e))

-- a path does not arrive where P does not hold
not_over : (w : Net) (P : Arrival → Type 0) (x : Arrival) (p : List Step) → AllByRecursion (λ e. P (arrival_of w e)) p → (P x → ⊥) → arrives w x p ≡ false
not_over w P x [] h n = refl
not_over w P x (e ∷ p) h n =
    let q : same x (arrival_of w e) ≡ false = not_same x (arrival_of w e) (λ z. n (subst P (sym z) h.0)) in
    ap (λ z. z || arrives w x p) q ∙ not_over w P x p h.1 n

-- the path goes on by a step that arrives where it has not been
pub route_more : {V : Type 0} {o : Ops V} {g : Scene} {s : ℕ} {ls : Labels V} {P : Arrival → Type 0} {a : Point} {v : V} (r : Route o g s ls P a v) (e : Step)
    → GoesOn g a e → (P (arrival_of g.net e) → ⊥) → back (ls (arrival_of g.net e)) ≡ Some (e, a) → Route o g s ls (λ y. P y ⊎ (y ≡ arrival_of g.net e)) (past g.net e) (after_step o g a.entered v e)
route_more {V} {o} {g} {s} {ls} {P} {a} {v} r e goes new last = record {
  path = r.path ++ e ∷ [];
  goes = goes_more g (begin s) r.path e r.goes (subst (λ (z : Point). GoesOn g z e) (sym r.ends) goes);
  ends = ends_more g.net (begin s) r.path e;
  costs = costs_more o g o.start (begin s) r.path e ∙ ap (λ z. after_step o g (end_of g.net (begin s) r.path).entered z e) r.costs ∙ ap (λ (z : Point). after_step o g z.entered v e) r.ends;
  leads = leads_more g.net ls (begin s) r.path a e r.leads last;
  over = over_more (λ d. P (arrival_of g.net d) ⊎ (arrival_of g.net d ≡ arrival_of g.net e)) r.path e (over_map r.path (λ d h. inl h) r.over) (inr refl);
  once = apart_more g.net r.path e r.once (not_over g.net P (arrival_of g.net e) r.path r.over new);
}
