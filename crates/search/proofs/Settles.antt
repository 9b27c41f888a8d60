-- The least open arrival is settled, and the steps from there are tried.
use Rattle.std.proofs.Common.{◌≡◌, ℕ, true, false, ◌⊎◌, Some, None, Option, ◌≢◌, refl, sym, ap, ◌∙◌, subst, inl, inr, ⊎_elim}
use Rattle.std.proofs.lemmas.Option.{none-some, same_Some}
use Rattle.std.proofs.lemmas.Bool.{true≢false}
use Rattle.cost.specs.Laws.{Ops, Laws}
use Rattle.cost.proofs.Runs.{reflexive}
use Rattle.network.specs.declared.step.Step.{Step}
use Rattle.semilightpath.specs.declared.point.Point.{Point}
use Rattle.semilightpath.specs.Scenes.{Scene}
use Rattle.semilightpath.specs.Paths.{begin}
use Rattle.search.specs.declared.arrival.Arrival.{Arrival}
use Rattle.search.specs.declared.label.Known.{Known}
use Rattle.search.specs.Labels.{Labels, cost_of, is_settled, settle, back, point_of}
use Rattle.search.specs.Invariants.{KnownAtMost, IsSettled, Sound, Covered, Covers, Ready, Moved, Written, IsLeast, Searching}
use Rattle.search.proofs.Routes.{route_map}
use Rattle.search.proofs.Proposals.{label_after, known_moved}
use Rattle.search.proofs.Aims.{covered_kept}

cost_settle : {V : Type 0} (l : Option (Known V)) → cost_of (settle l) ≡ cost_of l
cost_settle None = refl
cost_settle (Some k) = refl

back_settle : {V : Type 0} (l : Option (Known V)) → back (settle l) ≡ back l
back_settle None = refl
back_settle (Some k) = refl

pub is_settle : {V : Type 0} (l : Option (Known V)) (v : V) → cost_of l ≡ Some v → is_settled (settle l) ≡ true
is_settle None v h = absurd (none-some _ h)
is_settle (Some k) v h = refl

module _ {V : Type 0} {o : Ops V} (laws : Laws o) (g : Scene) (s t : ℕ) (ls ms : Labels V) (x : Arrival) (v : V)
    (searching : Searching o g s t ls) (least : IsLeast o ls x v) (written : Written ls ms x (settle (ls x))) where
  after : (y : Arrival) → ((y ≡ x) × (ms y ≡ settle (ls x))) ⊎ ((y ≢ x) × (ms y ≡ ls y))
  after y = label_after written y

  settled_now : is_settled (settle (ls x)) ≡ true
  settled_now = is_settle (ls x) v least.known

  pub costs_stay : (y : Arrival) → cost_of (ms y) ≡ cost_of (ls y)
  costs_stay y = ⊎_elim (λ h. ap cost_of h.1 ∙ cost_settle (ls x) ∙ ap (λ z. cost_of (ls z)) (sym h.0)) (λ h. ap cost_of h.1) (after y)

  pub backs : (y : Arrival) → back (ms y) ≡ back (ls y)
  backs y = ⊎_elim (λ h. ap back h.1 ∙ back_settle (ls x) ∙ ap (λ z. back (ls z)) (sym h.0)) (λ h. ap back h.1) (after y)

  stays : (y : Arrival) → IsSettled ls y → IsSettled ms y
  stays y d = ⊎_elim (λ h. ap is_settled h.1 ∙ settled_now) (λ h. ap is_settled h.1 ∙ d) (after y)

  was : (y : Arrival) → IsSettled ms y → (y ≡ x) ⊎ IsSettled ls y
  was y d = ⊎_elim (λ h. inl h.0) (λ h. inr (sym (ap is_settled h.1) ∙ d)) (after y)

  opens : (y : Arrival) → is_settled (ms y) ≡ false → is_settled (ls y) ≡ false
  opens y d = ⊎_elim (λ h. absurd (true≢false (sym settled_now ∙ sym (ap is_settled h.1) ∙ d))) (λ h. sym (ap is_settled h.1) ∙ d) (after y)

  is_v : (y : Arrival) (w : V) → y ≡ x → cost_of (ls y) ≡ Some w → v ≡ w
  is_v y w e h = same_Some _ _ (sym least.known ∙ ap (λ z. cost_of (ls z)) (sym e) ∙ h)

  sound_then : Sound o g s ms
  sound_then = record {
    reach = λ y w h. route_map (λ z. ⊎_elim (λ d. inl (stays z d)) (λ e. inr e)) (λ z _. backs z) (searching.sound.reach y w (sym (costs_stay y) ∙ h));
    order = λ y z w w' dy dz hy hz.
        let hy' = sym (costs_stay y) ∙ hy in
        let hz' = sym (costs_stay z) ∙ hz in
        ⊎_elim
        (λ e. subst (λ (t : V). o.at_most t w' ≡ true) (is_v y w e hy') (least.least z w' (opens z dz) hz'))
        (λ d. searching.sound.order y z w w' d (opens z dz) hy' hz') (was y dy);
  }

  here : IsSettled ms x
  here = ⊎_elim (λ h. ap is_settled h.1 ∙ settled_now) (λ h. absurd (h.0 refl)) (after x)

  pub ready_then : Ready o g s ms (point_of x) v
  ready_then = record {
    sound = sound_then;
    route = route_map (λ y. ⊎_elim (stays y) (λ e. subst (IsSettled ms) (sym e) here)) (λ y _. backs y) (searching.sound.reach x v least.known);
    top = λ y w d h. ⊎_elim
        (λ e. subst (λ (t : V). o.at_most t v ≡ true) (is_v y w e (sym (costs_stay y) ∙ h)) (reflexive laws v))
        (λ d'. searching.sound.order y x w v d' least.unsettled (sym (costs_stay y) ∙ h) least.known) (was y d);
  }

  pub known_then : (y : Arrival) (w : V) → KnownAtMost o ls y w → KnownAtMost o ms y w
  known_then y w u = (u.0, costs_stay y ∙ u.1, u.2)

  covered_then : (ns : Labels V) → Moved o ms ns → (a : Point) (w : V) (e : Step) → Covered o g t ls a w e → Covered o g t ns a w e
  covered_then ns moved a w e c = covered_kept o ms ns (known_moved laws moved) g t a w e (covered_kept o ls ms known_then g t a w e c)

  pub searching_then : (ns : Labels V) → Moved o ms ns → Ready o g s ns (point_of x) v → Covers o g t ns (point_of x) v → Searching o g s t ns
  searching_then ns moved ready covers = record {
    sound = ready.sound;
    first = λ e goes. covered_then ns moved (begin s) o.start e (searching.first e goes);
    closed = λ y w d h.
        let d' : IsSettled ms y = sym (moved.flags y) ∙ d in
        let h' : cost_of (ls y) ≡ Some w = sym (costs_stay y) ∙ sym (ap cost_of (moved.fixed y d')) ∙ h in
        ⊎_elim
        (λ e. subst (λ (z : V). Covers o g t ns (point_of y) z) (is_v y w e h') (subst (λ (z : Arrival). Covers o g t ns (point_of z) v) (sym e) covers))
        (λ q e goes. covered_then ns moved (point_of y) w e (searching.closed y w q h' e goes)) (was y d');
  }
