-- Steps are tried one after the other.
use Rattle.std.proofs.Common.{◌≡◌, ℕ, ◌+◌, ◌<◌, ◌≤◌, ◌||◌, ◌⊎◌, Bool, true, false, cond, Some, None, Option, List, drop, slice_index, refl, sym, ap, ap₂, ◌∙◌, subst, inl, inr, ⊎_elim}
use Rattle.std.proofs.lemmas.Option.{same_Some}
use Rattle.std.proofs.lemmas.Bool.{true≢false}
use Rattle.std.specs.Option.{IfSome, IsSome, unwrap_or}
use Rattle.network.specs.Tariffs.{absent, arrival_entries}
use Rattle.network.specs.declared.counts.Counts.{Counts}
use Rattle.network.specs.declared.extent.Extent.{Extent}
use Rattle.network.specs.declared.step.Step.{Step}
use Rattle.cost.specs.Laws.{Ops, Laws, IsGrowing}
use Rattle.cost.proofs.Runs.{reflexive}
use Rattle.cost.specs.Charges.{after_all}
use Rattle.semilightpath.specs.declared.point.Point.{Point}
use Rattle.semilightpath.specs.Scenes.{Scene}
use Rattle.semilightpath.specs.Paths.{GoesOn}
use Rattle.semilightpath.specs.Costs.{largest_tariff, conversion, left, after_step}
use Rattle.semilightpath.proofs.Prices.{step_left, left_upward, step_upward}
use Rattle.search.specs.declared.arrival.Arrival.{Arrival}
use Rattle.search.specs.declared.label.Known.{Known}
use Rattle.search.specs.declared.goal.Best.{Best}
use Rattle.search.specs.declared.goal.Goal.{Goal}
use Rattle.search.specs.Labels.{Labels, better, cost_of, is_settled, arrival_of}
use Rattle.search.specs.declared.work.Work.{Work}
use Rattle.search.specs.Works.{KeepsRest}
use Rattle.search.specs.Goals.{is_at_most, is_bound, aimed, Past}
use Rattle.search.specs.Invariants.{KnownAtMost, ReachedAtMost, Bounds, Covered, Ready, KeepsSettled, Written, Tries}
use Rattle.search.proofs.Frontiers.{last_or, bound_more}
use Rattle.search.proofs.Proposals.{proposal, moved_on, known_moved, known_more, proposal_settles, proposed}
use Rattle.search.proofs.Aims.{covered_kept, bound_reaches, aimed_bounds}

module _ {V : Type 0} {o : Ops V} (laws : Laws o) (g : Scene) (a : Point) (v : V) where
  -- one more is tried
  pub tries_on : (h k l : Goal V) (ls ms ns : Labels V) (Q R S : Step → Type 0) → Tries o g h k ls ms a v Q → Tries o g k l ms ns a v R → l.node ≡ k.node → ((e : Step) → GoesOn g a e → S e → Q e ⊎ R e) → Tries o g h l ls ns a v S
  tries_on h k l ls ms ns Q R S first then same either s ready bounds =
      let p = first s ready bounds in
      let q = then s p.ready p.bounds in
      record {
        moved = moved_on laws p.moved q.moved;
        ready = q.ready;
        bounds = q.bounds;
        covers = λ e goes h. ⊎_elim
            (λ d. subst (λ t. Covered o g t ns a v e) (sym same) (covered_kept o ms ns (known_moved laws q.moved) g k.node a v e (p.covers e goes d)))
            (λ d. q.covers e goes d) (either e goes h);
      }

  -- some were tried, and the others need not be by what is known then
  pub tries_more : (h k : Goal V) (ls ms : Labels V) (Q S : Step → Type 0) → Tries o g h k ls ms a v Q → ((e : Step) → GoesOn g a e → S e → Q e ⊎ (Bounds o ms k → Covered o g k.node ms a v e)) → Tries o g h k ls ms a v S
  tries_more h k ls ms Q S tried more s ready bounds =
      let p = tried s ready bounds in
      record { moved = p.moved; ready = p.ready; bounds = p.bounds; covers = λ e goes h. ⊎_elim (p.covers e goes) (λ c. c p.bounds) (more e goes h) }

  pub tries_same : (h k : Goal V) (ls ms : Labels V) (Q S : Step → Type 0) → Tries o g h k ls ms a v Q → ((e : Step) → GoesOn g a e → S e → Q e) → Tries o g h k ls ms a v S
  tries_same h k ls ms Q S tried same = tries_more h k ls ms Q S tried (λ e goes h. inl (same e goes h))

  module _ (charged : (e : Step) → IfSome (g.fare e) (λ w. w < absent)) where
    -- what a step costs, once its node was left, by the tariff that it has if it can be used
    pub step_cost : (e : Step) (u r : V) (w : ℕ) → u ≡ left o g.net a v e.channel → IfSome (g.fare e) (λ f. f ≡ w) → r ≡ o.span u w → GoesOn g a e → r ≡ after_step o g a.entered v e
    step_cost e u r w left told cost goes = cost ∙ go (g.fare e) refl told goes.0.1
      where
        go : (f : Option ℕ) → g.fare e ≡ f → IfSome f (λ f. f ≡ w) → IsSome f → o.span u w ≡ after_step o g a.entered v e
        go None is t some = absurd (true≢false (sym some))
        go (Some f) is t some =
            ap₂ o.span (left ∙ ap (λ n. after_all o v (conversion g.net n a.entered e.channel)) (sym goes.1)) (sym t ∙ ap (λ f. unwrap_or f largest_tariff) (sym is)) ∙ sym (step_left laws g charged a.entered v e)

    -- an arrival that is not known at no more than a step costs is not settled
    unsettled : (s : ℕ) (ls : Labels V) → Ready o g s ls a v → (e : Step) (x : Arrival) → is_at_most o (ls x) (after_step o g a.entered v e) ≡ false → is_settled (ls x) ≡ false
    unsettled s ls ready e x dear = go (ls x) refl dear
      where
        go : (l : Option (Known V)) → ls x ≡ l → is_at_most o l (after_step o g a.entered v e) ≡ false → is_settled l ≡ false
        go None q d = refl
        go (Some k) q d = test k.settled refl
          where
            test : (t : Bool) → k.settled ≡ t → t ≡ false
            test false e' = refl
            test true e' = absurd (true≢false (sym (laws.transitive k.cost v _ (ready.top x k.cost (ap is_settled q ∙ e') (ap cost_of q)) (step_upward laws g charged a.entered v e)) ∙ d))

    -- so there the step is taken
    taken : (l : Option (Known V)) (k : Known V) → is_settled l ≡ false → is_at_most o l k.cost ≡ false → better o l k ≡ Some k
    taken None k d e = refl
    taken (Some h) k d e = ap (λ z. cond (z || o.at_most h.cost k.cost) (Some h) (Some k)) d ∙ ap (λ z. cond z (Some h) (Some k)) e

    -- a step is tried by a proposal
    pub tries_step : (h : Goal V) (ls ms : Labels V) (e : Step) (x : Arrival) (k : Known V) → GoesOn g a e → x ≡ arrival_of g.net e → k ≡ proposal o g a v e → is_bound o h.best k.cost ≡ false → is_at_most o (ls x) k.cost ≡ false → Written ls ms x (better o (ls x) k) → Tries o g h (aimed h x k.cost) ls ms a v (λ d. d ≡ e)
    tries_step h ls ms e x k goes p q below dear w s ready bounds =
        let w' = subst (λ (z : Known V). Written ls ms (arrival_of g.net e) (better o (ls (arrival_of g.net e)) z)) q (subst (λ (z : Arrival). Written ls ms z (better o (ls z) k)) p w) in
        let r = proposed laws g charged s ls a v ready e goes ms w' in
        let costs : k.cost ≡ after_step o g a.entered v e = ap (λ (z : Known V). z.cost) q in
        let flag = unsettled s ls ready e x (ap (is_at_most o (ls x)) (sym costs) ∙ dear) in
        record {
          moved = r.0;
          ready = r.1;
          bounds = aimed_bounds laws ls ms h x k (subst (Written ls ms x) (taken (ls x) k flag dear) w) below bounds;
          covers = λ d _ h. inl (inl (subst (λ (z : Step). KnownAtMost o ms (arrival_of g.net z) (after_step o g a.entered v z)) (sym h) r.2));
        }

    -- a step is taken, once its node was left at u
    pub tries_taken : (h l : Goal V) (ls ms : Labels V) (e : Step) (x : Arrival) (u r : V) (w : ℕ) → u ≡ left o g.net a v e.channel → IfSome (g.fare e) (λ f. f ≡ w) → r ≡ o.span u w → GoesOn g a e → x ≡ arrival_of g.net e
        → is_bound o h.best r ≡ false → is_at_most o (ls x) r ≡ false → Written ls ms x (better o (ls x) (record { cost = r; step = e; from = a; settled = false })) → l ≡ aimed h x r → Tries o g h l ls ms a v (λ d. d ≡ e)
    tries_taken h l ls ms e x u r w left told cost goes at below dear written aim =
        let k : Known V = record { cost = r; step = e; from = a; settled = false } in
        let is : k ≡ proposal o g a v e = ap (λ (z : V). record { cost = z; step = e; from = a; settled = false }) (step_cost e u r w left told cost goes) in
        subst (λ (z : Goal V). Tries o g h z ls ms a v (λ d. d ≡ e)) (sym aim) (tries_step h ls ms e x k goes at is below dear written)

    -- a step at this tariff or a larger need not be tried, where the goal is reached at no more
    pub past_span : (k : Goal V) (ms : Labels V) (u : V) (r : ℕ) → Past o k.best o.span u r → (e : Step) (w : ℕ) → r ≤ w → u ≡ left o g.net a v e.channel → IfSome (g.fare e) (λ f. f ≡ w) → GoesOn g a e → Bounds o ms k → Covered o g k.node ms a v e
    past_span k ms u r past e w l is told goes bounds =
        let below : w < absent = fare_below e w told goes.0.1 in
        inl (inr (subst (ReachedAtMost o ms k.node) (step_cost e u (o.span u w) w is told refl goes) (bound_reaches laws ms k (o.span u w) bounds (past w l below))))
      where
        fare_below : (e : Step) (w : ℕ) → IfSome (g.fare e) (λ f. f ≡ w) → IsSome (g.fare e) → w < absent
        fare_below e w told some = go (g.fare e) (charged e) told some
          where
            go : (f : Option ℕ) → IfSome f (λ w. w < absent) → IfSome f (λ f. f ≡ w) → IsSome f → w < absent
            go None c t i = absurd (true≢false (sym i))
            go (Some f) c t i = subst (λ z. z < absent) t c

    -- nor one on a channel into which the node converts at this tariff or a larger
    pub past_exit : (k : Goal V) (ms : Labels V) (r : ℕ) → Past o k.best o.conversion v r → (e : Step) (w : ℕ) → r ≤ w → w < absent → left o g.net a v e.channel ≡ o.conversion v w → GoesOn g a e → Bounds o ms k → Covered o g k.node ms a v e
    past_exit k ms r past e w l below is goes bounds =
        let reached = bound_reaches laws ms k (o.conversion v w) bounds (past w l below) in
        inl (inr (
          reached.0,
          reached.1,
          known_more laws ms reached.0 (o.conversion v w) (after_step o g a.entered v e) reached.2
              (left_upward laws g charged a v e (o.conversion v w) goes.1 (ap (o.at_most (o.conversion v w)) is ∙ reflexive laws (o.conversion v w))),
        ))

-- what has a fare is charged what the network tells
pub told_by : (x y : Option ℕ) (w : ℕ) → IfSome x (λ v. y ≡ Some v) → y ≡ Some w → IfSome x (λ f. f ≡ w)
told_by None y w is told = tt
told_by (Some f) y w is told = same_Some _ _ (sym is ∙ told)

pub told_rate : (x y : Option ℕ) → IfSome x (λ v. y ≡ Some v) → IfSome x (λ f. f ≡ unwrap_or y absent)
told_rate None y is = tt
told_rate (Some f) y is = ap (λ z. unwrap_or z absent) (sym is)

-- what is at a larger tariff costs no less, by a kind that grows with the tariffs
pub past_grown : {V : Type 0} {o : Ops V} → Laws o → (step : V → ℕ → V) → IsGrowing o.at_most step → (b : Option (Best V)) (v : V) (w : ℕ) → is_bound o b (step v w) ≡ true → Past o b step v w
past_grown laws step grows b v w h x l below = bound_more laws b (step v w) (step v x) h (grows v w x l below)

-- what is taken settles nothing
pub taken_settles : {V : Type 0} (o : Ops V) (ls ms : Labels V) (x : Arrival) (r : V) (e : Step) (a : Point) → Written ls ms x (better o (ls x) (record { cost = r; step = e; from = a; settled = false })) → KeepsSettled ls ms
taken_settles o ls ms x r e a w = proposal_settles o ls ms x (record { cost = r; step = e; from = a; settled = false }) refl w

-- what lies beyond is kept by both of two calls
pub rest_on : {K V : Type 0} {kind : _} {display : _} (a b c : Work K V kind display) → KeepsRest a b → KeepsRest b c → KeepsRest a c
rest_on a b c p q = record {
  extent = q.extent ∙ p.extent;
  name = q.name ∙ p.name;
  long = q.long ∙ p.long;
  beyond = subst (λ n. drop (arrival_entries n) c.labels.now ≡ drop (arrival_entries n) b.labels.now) (ap (λ z. z.counts) p.extent) q.beyond ∙ p.beyond;
}

pub settled_on : {V : Type 0} (ls ms ns : Labels V) → KeepsSettled ls ms → KeepsSettled ms ns → KeepsSettled ls ns
settled_on ls ms ns p q x = q x ∙ p x

-- the counts of a network stay those that they were
pub counts_on : {K V : Type 0} {kind : _} {display : _} (a b : Work K V kind display) (n : Counts) → KeepsRest a b → a.extent.counts ≡ n → b.extent.counts ≡ n
counts_on a b n p h = ap (λ (z : Extent). z.counts) p.extent ∙ h

-- one channel more
pub channel_either : (e : Step) (c : ℕ) → e.channel < c + 1 → (e.channel < c) ⊎ (e.channel ≡ c)
channel_either e c h = last_or c e.channel h

-- one number more of a row
pub number_either : (row : List ℕ) (i n : ℕ) → ((j : ℕ) × (j < i + 1) × (slice_index row j ≡ n)) → ((j : ℕ) × (j < i) × (slice_index row j ≡ n)) ⊎ (slice_index row i ≡ n)
number_either row i n h = ⊎_elim (λ l. inl (h.0, l, h.2)) (λ q. inr (sym (ap (slice_index row) q) ∙ h.2)) (last_or i h.0 h.1)
