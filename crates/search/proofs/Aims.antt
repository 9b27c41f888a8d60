-- What need not be tried stays so while labels fall, and why a step need not be tried.
use Rattle.std.proofs.Common.{◌≡◌, ℕ, ◌<◌, Bool, true, false, cond, ◌≢◌, ◌⊎◌, [], ◌∷◌, Some, None, Option, ◌==◌, refl, sym, ap, ◌∙◌, subst, inl, inr, ⊎_elim}
use Rattle.std.proofs.lemmas.Option.{same_Some}
use Rattle.std.proofs.lemmas.Bool.{true≢false, eq-eqb, eqb-true}
use Rattle.std.specs.Option.{IfSome, IsSome, is_some, unwrap_or}
use Rattle.network.specs.Net.{Net, converter_of}
use Rattle.cost.specs.Charges.{after_all}
use Rattle.cost.specs.declared.charge.Charge.TheVariants.{Conversion}
use Rattle.network.specs.Tariffs.{absent}
use Rattle.network.specs.declared.step.Step.{Step}
use Rattle.cost.specs.Laws.{Ops, Laws}
use Rattle.cost.proofs.Runs.{reflexive}
use Rattle.semilightpath.specs.declared.point.Point.{Point}
use Rattle.semilightpath.specs.Scenes.{Scene}
use Rattle.semilightpath.specs.Paths.{Joins, GoesOn}
use Rattle.semilightpath.specs.Costs.{largest_tariff, conversion, left, after_step}
use Rattle.semilightpath.proofs.Prices.{left_upward}
use Rattle.search.specs.declared.arrival.Arrival.{Arrival}
use Rattle.search.specs.declared.label.Known.{Known}
use Rattle.search.specs.declared.goal.Best.{Best}
use Rattle.search.specs.declared.goal.Goal.{Goal}
use Rattle.search.specs.Labels.{Labels, cost_of, arrival, arrival_of}
use Rattle.search.specs.Goals.{is_at_most, is_bound, aimed}
use Rattle.search.specs.Invariants.{KnownAtMost, ReachedAtMost, Bounds, LeftAtMost, Covered, Written, Tries}
use Rattle.search.proofs.Proposals.{other, label_after, moved_not, known_more}

-- what it costs to have left a node on another channel than it was entered on
pub left_exit : {V : Type 0} (o : Ops V) (w : Net) (a : Point) (v : V) (b c t : ℕ) → a.entered ≡ Some b → b ≢ c → converter_of w a.node b c ≡ Some t → o.conversion v t ≡ left o w a v c
left_exit o w a v b c t p ne is =
    ap (λ x. o.conversion v (unwrap_or x largest_tariff)) (sym is)
    ∙ ap (λ z. after_all o v (cond z [] (Conversion (unwrap_or (converter_of w a.node b c) largest_tariff) ∷ []))) (sym (differ (b == c) refl))
    ∙ ap (λ e. after_all o v (conversion w a.node e c)) (sym p)
  where
    differ : (z : Bool) → (b == c) ≡ z → z ≡ false
    differ false q = refl
    differ true q = absurd (ne (eqb-true b c q))

-- it can be left so
pub exit_joins : (w : Net) (a : Point) (b c t : ℕ) → a.entered ≡ Some b → converter_of w a.node b c ≡ Some t → Joins w a c
exit_joins w a b c t p is = subst (λ z. IfSome z (λ b. (b ≡ c) ⊎ IsSome (converter_of w a.node b c))) (sym p) (inr (ap is_some is))

-- nothing more on the channel that it was entered on
pub left_same : {V : Type 0} (o : Ops V) (w : Net) (a : Point) (v : V) (b : ℕ) → a.entered ≡ Some b → v ≡ left o w a v b
left_same o w a v b p =
    ap (λ z. after_all o v (cond z [] (Conversion (unwrap_or (converter_of w a.node b b) largest_tariff) ∷ []))) (sym (eq-eqb b b refl))
    ∙ ap (λ e. after_all o v (conversion w a.node e b)) (sym p)

pub same_joins : (w : Net) (a : Point) (b : ℕ) → a.entered ≡ Some b → Joins w a b
same_joins w a b p = subst (λ z. IfSome z (λ c. (c ≡ b) ⊎ IsSome (converter_of w a.node c b))) (sym p) (inl refl)

-- nor where nothing was entered yet
pub left_begun : {V : Type 0} (o : Ops V) (w : Net) (a : Point) (v : V) (c : ℕ) → a.entered ≡ None → v ≡ left o w a v c
left_begun o w a v c p = ap (λ e. after_all o v (conversion w a.node e c)) (sym p)

pub begun_joins : (w : Net) (a : Point) (c : ℕ) → a.entered ≡ None → Joins w a c
begun_joins w a c p = subst (λ z. IfSome z (λ b. (b ≡ c) ⊎ IsSome (converter_of w a.node b c))) (sym p) tt

-- where all that is known stays known at no more
module _ {V : Type 0} (o : Ops V) (ls ms : Labels V) (kept : (y : Arrival) (w : V) → KnownAtMost o ls y w → KnownAtMost o ms y w) where
  pub reached_kept : (t : ℕ) (v : V) → ReachedAtMost o ls t v → ReachedAtMost o ms t v
  reached_kept t v r = (r.0, r.1, kept r.0 v r.2)

  pub covered_kept : (g : Scene) (t : ℕ) (a : Point) (v : V) (e : Step) → Covered o g t ls a v e → Covered o g t ms a v e
  covered_kept g t a v e c = ⊎_elim (λ r. inl (⊎_elim (λ k. inl (kept (arrival_of g.net e) _ k)) (λ k. inr (reached_kept t _ k)) r)) (λ q. inr (q.0, kept (arrival a.node e.channel) _ q.1)) c

most_known : {V : Type 0} (o : Ops V) (l : Option (Known V)) (v : V) → is_at_most o l v ≡ true → (u : V) × (cost_of l ≡ Some u) × (o.at_most u v ≡ true)
most_known o None v q = absurd (true≢false (sym q))
most_known o (Some k) v q = (k.cost, refl, q)

module _ {V : Type 0} {o : Ops V} (laws : Laws o) (ls : Labels V) where
  reached_more : (t : ℕ) (v w : V) → ReachedAtMost o ls t v → o.at_most v w ≡ true → ReachedAtMost o ls t w
  reached_more t v w r m = (r.0, r.1, known_more laws ls r.0 v w r.2 m)

  -- the goal is reached at no more
  pub bound_reaches : (h : Goal V) (v : V) → Bounds o ls h → is_bound o h.best v ≡ true → ReachedAtMost o ls h.node v
  bound_reaches h v b q = go h.best b.known q
    where
      go : (z : Option (Best V)) → IfSome z (λ b. cost_of (ls (arrival h.node b.channel)) ≡ Some b.cost) → is_bound o z v ≡ true → ReachedAtMost o ls h.node v
      go None k q = absurd (true≢false (sym q))
      go (Some b) k q = (arrival h.node b.channel, refl, (b.cost, k, q))

  module _ (g : Scene) (h : Goal V) (a : Point) (v : V) where
    -- nothing is done where there is nothing left to try
    pub tries_not : (Q : Step → Type 0) → (Bounds o ls h → (e : Step) → GoesOn g a e → Q e → Covered o g h.node ls a v e) → Tries o g h h ls ls a v Q
    tries_not Q covered s ready bounds = record { moved = moved_not laws ls; ready = ready; bounds = bounds; covers = covered bounds }

    -- where the step can't be taken
    pub tries_never : (d : Step) → (GoesOn g a d → ⊥) → Tries o g h h ls ls a v (λ e. e ≡ d)
    tries_never d never = tries_not (λ e. e ≡ d) (λ bounds e goes same. absurd (never (subst (GoesOn g a) same goes)))

    module _ (charged : (e : Step) → IfSome (g.fare e) (λ w. w < absent)) where
      -- where the goal is reached at no more than it costs to have left
      pub tries_bound : (c : ℕ) (u : V) → u ≡ left o g.net a v c → is_bound o h.best u ≡ true → Tries o g h h ls ls a v (λ e. e.channel ≡ c)
      tries_bound c u is q = tries_not (λ e. e.channel ≡ c) (λ bounds e goes same.
          inl (inr (reached_more h.node u _ (bound_reaches h u bounds q)
          (left_upward laws g charged a v e u goes.1 (subst (λ (z : V). o.at_most u z ≡ true) (is ∙ ap (left o g.net a v) (sym same)) (reflexive laws u))))))

    -- where the goal is reached at no more than a step costs
    pub tries_bound_step : (d : Step) (w : V) → (GoesOn g a d → w ≡ after_step o g a.entered v d) → is_bound o h.best w ≡ true → Tries o g h h ls ls a v (λ e. e ≡ d)
    tries_bound_step d w is q = tries_not (λ e. e ≡ d) (λ bounds e goes same. inl (inr (subst (ReachedAtMost o ls h.node) (is (subst (GoesOn g a) same goes) ∙ ap (after_step o g a.entered v) (sym same)) (bound_reaches h w bounds q))))

    -- where the step's arrival is known at no more
    pub tries_known : (d : Step) (x : Arrival) (w : V) → (GoesOn g a d → w ≡ after_step o g a.entered v d) → x ≡ arrival_of g.net d → is_at_most o (ls x) w ≡ true → Tries o g h h ls ls a v (λ e. e ≡ d)
    tries_known d x w is at q = tries_not (λ e. e ≡ d) (λ bounds e goes same.
        let known : KnownAtMost o ls (arrival_of g.net d) w = subst (λ (z : Arrival). KnownAtMost o ls z w) at (most_known o (ls x) w q) in
        subst (λ (z : Step). Covered o g h.node ls a v z) (sym same) (inl (inl (subst (KnownAtMost o ls (arrival_of g.net d)) (is (subst (GoesOn g a) same goes)) known))))

    -- where the node is entered on the channel at no more, another than it was entered on
    pub tries_entered : (c : ℕ) (u : V) → a.entered ≢ Some c → u ≡ left o g.net a v c → is_at_most o (ls (arrival a.node c)) u ≡ true → Tries o g h h ls ls a v (λ e. e.channel ≡ c)
    tries_entered c u other is q = tries_not (λ e. e.channel ≡ c) (λ bounds e goes same.
        let known = most_known o (ls (arrival a.node c)) u q in
        inr (subst (LeftAtMost o g ls a v) (sym same) (other, (known.0, known.1, subst (λ (z : V). o.at_most known.0 z ≡ true) is known.2))))

-- what is not reached at v costs less than what is
below_less : {V : Type 0} {o : Ops V} → Laws o → (b : Option (Best V)) (v u : V) → is_bound o b v ≡ false → is_bound o b u ≡ true → o.at_most v u ≡ true
below_less laws None v u p q = absurd (true≢false (sym q))
below_less {V} {o} laws (Some b) v u p q = laws.transitive v b.cost u (other (o.at_most b.cost v) (o.at_most v b.cost) p (laws.total b.cost v)) q

-- the goal's best arrival stays where all costs stay
pub bounds_same : {V : Type 0} (o : Ops V) (ls ms : Labels V) → ((y : Arrival) → cost_of (ms y) ≡ cost_of (ls y)) → (h : Goal V) → Bounds o ls h → Bounds o ms h
bounds_same {V} o ls ms same h b = record {
  known = go h.best b.known;
  nearest = λ y v e k. b.nearest y v e (sym (same y) ∙ k);
}
  where
    go : (z : Option (Best V)) → IfSome z (λ b. cost_of (ls (arrival h.node b.channel)) ≡ Some b.cost) → IfSome z (λ b. cost_of (ms (arrival h.node b.channel)) ≡ Some b.cost)
    go None k = k
    go (Some b) k = same (arrival h.node b.channel) ∙ k

-- a goal is aimed at where an arrival became known below the bound
module _ {V : Type 0} {o : Ops V} (laws : Laws o) (ls ms : Labels V) (h : Goal V) (x : Arrival) (k : Known V) (w : Written ls ms x (Some k)) (below : is_bound o h.best k.cost ≡ false) (b : Bounds o ls h) where
  near : x.node ≡ h.node → (y : Arrival) (u : V) → y.node ≡ h.node → cost_of (ms y) ≡ Some u → o.at_most k.cost u ≡ true
  near e y u f c = ⊎_elim
      (λ q. subst (λ (z : V). o.at_most k.cost z ≡ true) (same_Some _ _ (sym (ap cost_of q.1) ∙ c)) (reflexive laws k.cost))
      (λ q. below_less laws h.best k.cost u below (b.nearest y u f (sym (ap cost_of q.1) ∙ c)))
      (label_after w y)

  far : x.node ≢ h.node → (y : Arrival) → y.node ≡ h.node → ms y ≡ ls y
  far ne y f = w.others y (λ q. ne (ap (λ (z : Arrival). z.node) (sym q) ∙ f))

  far_known : x.node ≢ h.node → (z : Option (Best V)) → IfSome z (λ b. cost_of (ls (arrival h.node b.channel)) ≡ Some b.cost) → IfSome z (λ b. cost_of (ms (arrival h.node b.channel)) ≡ Some b.cost)
  far_known ne None i = i
  far_known ne (Some z) i = ap cost_of (far ne (arrival h.node z.channel) refl) ∙ i

  by : (t : Bool) → (x.node == h.node) ≡ t → Bounds o ms (record { node = h.node; best = cond t (Some (record { cost = k.cost; channel = x.channel })) h.best })
  by true e =
      let at : x.node ≡ h.node = eqb-true x.node h.node e in
      record {
        known = subst (λ n. cost_of (ms (arrival n x.channel)) ≡ Some k.cost) at (ap cost_of w.there);
        nearest = near at;
      }
  by false e =
      let ne : x.node ≢ h.node = λ q. true≢false (sym (eq-eqb x.node h.node q) ∙ e) in
      record {
        known = far_known ne h.best b.known;
        nearest = λ y u f c. b.nearest y u f (sym (ap cost_of (far ne y f)) ∙ c);
      }

  pub aimed_bounds : Bounds o ms (aimed h x k.cost)
  aimed_bounds = by (x.node == h.node) refl
