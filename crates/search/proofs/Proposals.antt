-- One proposal of a cost to an arrival keeps what a search keeps true.
use Rattle.std.proofs.Common.{◌≡◌, ℕ, ◌<◌, Bool, true, false, cond, ◌||◌, ◌⊎◌, Some, None, Option, ◌≢◌, refl, sym, ap, ◌∙◌, subst, inl, inr, ⊎_elim}
use Rattle.std.proofs.lemmas.Option.{none-some, same_Some}
use Rattle.std.proofs.lemmas.Bool.{true≢false, or_parts}
use Rattle.std.specs.Option.{IfSome}
use Rattle.network.specs.Tariffs.{absent}
use Rattle.network.specs.declared.step.Step.{Step}
use Rattle.cost.specs.Laws.{Ops, Laws}
use Rattle.cost.proofs.Runs.{reflexive}
use Rattle.semilightpath.specs.declared.point.Point.{Point}
use Rattle.semilightpath.specs.Scenes.{Scene}
use Rattle.semilightpath.specs.Paths.{GoesOn}
use Rattle.semilightpath.specs.Costs.{after_step}
use Rattle.semilightpath.proofs.Prices.{step_upward}
use Rattle.search.specs.declared.arrival.Arrival.{Arrival}
use Rattle.search.specs.declared.label.Known.{Known}
use Rattle.search.specs.Labels.{Labels, cost_of, is_settled, better, back, arrival_of, point_of}
use Rattle.search.specs.Invariants.{KnownAtMost, IsSettled, Route, Sound, Ready, Moved, Written}
use Rattle.search.proofs.Routes.{cases_same, route_map, route_more}

-- what a path that stands at a, at the cost v, and takes a step, proposes where it arrives
abbrev pub proposal : {V : Type 0} → Ops V → Scene → Point → V → Step → Known V
proposal o g a v e = record { cost = after_step o g a.entered v e; step = e; from = a; settled = false }

-- of two tests, the other holds
pub other : (a b : Bool) → a ≡ false → (a || b) ≡ true → b ≡ true
other a b h k = sym (ap (λ z. z || b) h) ∙ k

-- the label of each arrival after one was written
pub label_after : {V : Type 0} {ls ms : Labels V} {y : Arrival} {l : Option (Known V)} → Written ls ms y l → (x : Arrival) → ((x ≡ y) × (ms x ≡ l)) ⊎ ((x ≢ y) × (ms x ≡ ls x))
label_after {V} {ls} {ms} {y} w x = ⊎_elim (λ e. inl (e, ap ms e ∙ w.there)) (λ n. inr (n, w.others x n)) (cases_same x y)

unchanged : {V : Type 0} {ls ms : Labels V} {y : Arrival} → Written ls ms y (ls y) → (x : Arrival) → ls x ≡ ms x
unchanged {V} {ls} {ms} {y} w x = ⊎_elim (λ h. sym (h.1 ∙ ap ls (sym h.0))) (λ h. sym h.1) (label_after w x)

better_settled : {V : Type 0} (o : Ops V) (l : Option (Known V)) (k : Known V) → k.settled ≡ false → is_settled (better o l k) ≡ is_settled l
better_settled o None k d = d
better_settled o (Some h) k d = go (h.settled || o.at_most h.cost k.cost) refl
  where
    go : (t : Bool) → (h.settled || o.at_most h.cost k.cost) ≡ t → is_settled (cond t (Some h) (Some k)) ≡ h.settled
    go true m = refl
    go false m = d ∙ sym (or_parts h.settled (o.at_most h.cost k.cost) m).0

-- a proposal settles nothing
pub proposal_settles : {V : Type 0} (o : Ops V) (ls ms : Labels V) (x : Arrival) (k : Known V) → k.settled ≡ false → Written ls ms x (better o (ls x) k) → (y : Arrival) → is_settled (ms y) ≡ is_settled (ls y)
proposal_settles o ls ms x k d w y = ⊎_elim (λ h. ap is_settled h.1 ∙ better_settled o (ls x) k d ∙ ap (λ z. is_settled (ls z)) (sym h.0)) (λ h. ap is_settled h.1) (label_after w y)

module _ {V : Type 0} {o : Ops V} (laws : Laws o) where
  pub moved_not : (ls : Labels V) → Moved o ls ls
  moved_not ls = record {
    lower = λ x v h. (v, h, reflexive laws v);
    flags = λ x. refl;
    fixed = λ x h. refl;
  }

  pub known_moved : {ls ms : Labels V} → Moved o ls ms → (y : Arrival) (w : V) → KnownAtMost o ls y w → KnownAtMost o ms y w
  known_moved m y w u =
      let k = m.lower y u.0 u.1 in
      (k.0, k.1, laws.transitive k.0 u.0 w k.2 u.2)

  pub moved_on : {ls ms ns : Labels V} → Moved o ls ms → Moved o ms ns → Moved o ls ns
  moved_on p q = record {
    lower = λ x v h. known_moved q x v (p.lower x v h);
    flags = λ x. q.flags x ∙ p.flags x;
    fixed = λ x h. q.fixed x (p.flags x ∙ h) ∙ p.fixed x h;
  }

  pub known_more : (ls : Labels V) (y : Arrival) (w z : V) → KnownAtMost o ls y w → o.at_most w z ≡ true → KnownAtMost o ls y z
  known_more ls y w z u m = (u.0, u.1, laws.transitive u.0 w z u.2 m)

-- an open arrival, or one that is unknown, is written: known now at no more than before
module _ {V : Type 0} {o : Ops V} (laws : Laws o) (g : Scene) (s : ℕ) (ls ms : Labels V) (y : Arrival) (k : Known V)
    (sound : Sound o g s ls) (written : Written ls ms y (Some k)) (new : k.settled ≡ false) (unsettled : is_settled (ls y) ≡ false)
    (less : (v : V) → cost_of (ls y) ≡ Some v → o.at_most k.cost v ≡ true)
    (reached : Route o g s ms (λ z. IsSettled ms z ⊎ (z ≡ y)) (point_of y) k.cost)
    (top : (x : Arrival) (v : V) → is_settled (ls x) ≡ true → cost_of (ls x) ≡ Some v → o.at_most v k.cost ≡ true) where
  after : (x : Arrival) → ((x ≡ y) × (ms x ≡ Some k)) ⊎ ((x ≢ y) × (ms x ≡ ls x))
  after x = label_after written x

  flags : (x : Arrival) → is_settled (ms x) ≡ is_settled (ls x)
  flags x = ⊎_elim (λ h. ap is_settled h.1 ∙ new ∙ sym (ap (λ z. is_settled (ls z)) h.0 ∙ unsettled)) (λ h. ap is_settled h.1) (after x)

  fixed : (x : Arrival) → is_settled (ls x) ≡ true → ms x ≡ ls x
  fixed x d = ⊎_elim (λ h. absurd (true≢false (sym d ∙ ap (λ z. is_settled (ls z)) h.0 ∙ unsettled))) (λ h. h.1) (after x)

  pub moved_by : Moved o ls ms
  moved_by = record {
    lower = λ x v h. ⊎_elim (λ q. (k.cost, ap cost_of q.1, less v (sym (ap (λ z. cost_of (ls z)) q.0) ∙ h))) (λ q. (v, ap cost_of q.1 ∙ h, reflexive laws v)) (after x);
    flags = flags;
    fixed = fixed;
  }

  reach_at : (x : Arrival) (v : V) → x ≡ y → k.cost ≡ v → Route o g s ms (λ z. IsSettled ms z ⊎ (z ≡ x)) (point_of x) v
  reach_at x v e f =
      subst (λ (z : Arrival). Route o g s ms (λ t. IsSettled ms t ⊎ (t ≡ z)) (point_of z) v) (sym e)
      (subst (λ (z : V). Route o g s ms (λ t. IsSettled ms t ⊎ (t ≡ y)) (point_of y) z) f reached)

  kept : (x : Arrival) → x ≢ y → (z : Arrival) → IsSettled ls z ⊎ (z ≡ x) → back (ms z) ≡ back (ls z)
  kept x n z h = ⊎_elim (λ d. ap back (fixed z d)) (λ e. ap back (written.others z (λ q. n (sym e ∙ q)))) h

  pub sound_by : Sound o g s ms
  sound_by = record {
    reach = λ x v h. ⊎_elim
        (λ q. reach_at x v q.0 (same_Some _ _ (sym (ap cost_of q.1) ∙ h)))
        (λ q. route_map (λ z. ⊎_elim (λ d. inl (flags z ∙ d)) (λ e. inr e)) (kept x q.0) (sound.reach x v (sym (ap cost_of q.1) ∙ h)))
        (after x);
    order = λ x z v w dx dz kx kz.
        let dx' = sym (flags x) ∙ dx in
        let kx' = sym (ap cost_of (fixed x dx')) ∙ kx in
        ⊎_elim
        (λ q. subst (λ (t : V). o.at_most v t ≡ true) (same_Some _ _ (sym (ap cost_of q.1) ∙ kz)) (top x v dx' kx'))
        (λ q. sound.order x z v w dx' (sym (flags z) ∙ dz) kx' (sym (ap cost_of q.1) ∙ kz))
        (after z);
  }

module _ {V : Type 0} {o : Ops V} (g : Scene) (s : ℕ) (ls ms : Labels V) (a : Point) (v : V) (moved : Moved o ls ms) where
  pub ready_moved : Sound o g s ms → Ready o g s ls a v → Ready o g s ms a v
  ready_moved sound r = record {
    sound = sound;
    route = route_map (λ y d. moved.flags y ∙ d) (λ y d. ap back (moved.fixed y d)) r.route;
    top = λ x w d h. let d' = sym (moved.flags x) ∙ d in r.top x w d' (sym (ap cost_of (moved.fixed x d')) ∙ h);
  }

module _ {V : Type 0} {o : Ops V} (laws : Laws o) (g : Scene) (charged : (e : Step) → IfSome (g.fare e) (λ w. w < absent)) (s : ℕ) (ls : Labels V) (a : Point) (v : V)
    (ready : Ready o g s ls a v) (e : Step) (goes : GoesOn g a e) where
  abbrev Proposed : Labels V → Type 0
  Proposed ms = Moved o ls ms × Ready o g s ms a v × KnownAtMost o ms (arrival_of g.net e) (after_step o g a.entered v e)

  top : (x : Arrival) (w : V) → is_settled (ls x) ≡ true → cost_of (ls x) ≡ Some w → o.at_most w (after_step o g a.entered v e) ≡ true
  top x w d h = laws.transitive w v (after_step o g a.entered v e) (ready.top x w d h) (step_upward laws g charged a.entered v e)

  -- the proposal is taken
  taken : (ms : Labels V) → is_settled (ls (arrival_of g.net e)) ≡ false → ((w : V) → cost_of (ls (arrival_of g.net e)) ≡ Some w → o.at_most (after_step o g a.entered v e) w ≡ true)
      → Written ls ms (arrival_of g.net e) (Some (proposal o g a v e)) → Proposed ms
  taken ms unsettled less w =
      let k : Known V = proposal o g a v e in
      let fix : (z : Arrival) → IsSettled ls z → ms z ≡ ls z = λ z d. w.others z (λ q. true≢false (sym d ∙ ap (λ t. is_settled (ls t)) q ∙ unsettled)) in
      let settled_kept : (z : Arrival) → IsSettled ls z → IsSettled ms z = λ z d. ap is_settled (fix z d) ∙ d in
      let route = route_more (route_map settled_kept (λ z d. ap back (fix z d)) ready.route) e goes (λ d. true≢false (sym d ∙ ap is_settled w.there)) (ap back w.there) in
      let moved = moved_by laws g s ls ms (arrival_of g.net e) k ready.sound w refl unsettled less route top in
      let sound = sound_by laws g s ls ms (arrival_of g.net e) k ready.sound w refl unsettled less route top in
      (moved, ready_moved g s ls ms a v moved sound ready, (after_step o g a.entered v e, ap cost_of w.there, reflexive laws (after_step o g a.entered v e)))

  -- the label stays
  stays : (ms : Labels V) → KnownAtMost o ls (arrival_of g.net e) (after_step o g a.entered v e) → Written ls ms (arrival_of g.net e) (ls (arrival_of g.net e)) → Proposed ms
  stays ms h w = subst Proposed (λ i x. unchanged w x i) (moved_not laws ls, ready, h)

  go : (ms : Labels V) (l : Option (Known V)) → ls (arrival_of g.net e) ≡ l → Written ls ms (arrival_of g.net e) (better o l (proposal o g a v e)) → Proposed ms
  go ms None q w = taken ms (ap is_settled q) (λ z h. absurd (none-some _ (sym (ap cost_of q) ∙ h))) w
  go ms (Some k) q w = test (k.settled || o.at_most k.cost (after_step o g a.entered v e)) refl w
    where
      dear : (b : Bool) → k.settled ≡ b → (k.settled || o.at_most k.cost (after_step o g a.entered v e)) ≡ true → o.at_most k.cost (after_step o g a.entered v e) ≡ true
      dear true d m = top (arrival_of g.net e) k.cost (ap is_settled q ∙ d) (ap cost_of q)
      dear false d m = sym (ap (λ z. z || o.at_most k.cost (after_step o g a.entered v e)) d) ∙ m

      test : (t : Bool) → (k.settled || o.at_most k.cost (after_step o g a.entered v e)) ≡ t → Written ls ms (arrival_of g.net e) (cond t (Some k) (Some (proposal o g a v e))) → Proposed ms
      test true m w = stays ms (k.cost, ap cost_of q, dear k.settled refl m) (subst (Written ls ms (arrival_of g.net e)) (sym q) w)
      test false m w =
          let n = or_parts k.settled (o.at_most k.cost (after_step o g a.entered v e)) m in
          taken ms (ap is_settled q ∙ n.0) (λ z h. subst (λ (t : V). o.at_most (after_step o g a.entered v e) t ≡ true) (same_Some _ _ (sym (ap cost_of q) ∙ h)) (other (o.at_most k.cost (after_step o g a.entered v e)) _ n.1 (laws.total k.cost (after_step o g a.entered v e)))) w

  pub proposed : (ms : Labels V) → Written ls ms (arrival_of g.net e) (better o (ls (arrival_of g.net e)) (proposal o g a v e)) → Proposed ms
  proposed ms w = go ms (ls (arrival_of g.net e)) refl w
