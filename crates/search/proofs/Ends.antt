-- The start of a search, and its end: every semilightpath has an open arrival that costs no more.
use Rattle.std.proofs.Common.{◌≡◌, ℕ, ◌<◌, ◌≤◌, true, false, List, [], ◌∷◌, length, Some, None, Option, inl, refl, sym, ap, ◌∙◌, subst, ⊎_elim, arith}
use Rattle.std.proofs.lemmas.Option.{none-some}
use Rattle.std.proofs.lemmas.Bool.{true≢false, cases_Bool}
use Rattle.std.specs.Option.{IfSome}
use Rattle.std.proofs.lemmas.List.Sums.{fold-append}
use Rattle.network.specs.Tariffs.{absent, arrival_entries}
use Rattle.network.specs.declared.step.Step.{Step}
use Rattle.cost.specs.Laws.{Ops, Laws}
use Rattle.cost.specs.Charges.{after, after_all}
use Rattle.cost.proofs.Runs.{run_monotone}
use Rattle.semilightpath.specs.declared.point.Point.{Point}
use Rattle.semilightpath.specs.Scenes.{Scene}
use Rattle.semilightpath.specs.Paths.{begin, GoesOn, Goes, end_of, IsSemilightpath}
use Rattle.semilightpath.specs.Costs.{step_charges, charges, after_step, cost}
use Rattle.semilightpath.specs.Cheapest.{IsCheapest}
use Rattle.semilightpath.proofs.Prices.{left_upward, left_monotone, step_monotone, charges_tariffs, charges_upward}
use Rattle.search.specs.declared.arrival.Arrival.{Arrival}
use Rattle.search.specs.declared.goal.Goal.{Goal}
use Rattle.search.specs.Goals.{is_bound}
use Rattle.search.specs.Labels.{Labels, cost_of, IsInside, is_settled, back, trail, arrival, arrival_of, point_of}
use Rattle.search.specs.Invariants.{KnownAtMost, ReachedAtMost, Covered, Covers, Ready, Moved, IsReached, NotYet, Searching}
use Rattle.search.proofs.Trails.{trail_is, leads_shown, path_short, distinct_apart}
use Rattle.search.proofs.Frontiers.{bound_more}
use Rattle.search.proofs.Proposals.{known_more}

module _ {V : Type 0} {o : Ops V} (laws : Laws o) (g : Scene) (s : ℕ) (ls : Labels V) (unknown : (x : Arrival) → ls x ≡ None) where
  no_cost : (x : Arrival) (v : V) → cost_of (ls x) ≡ Some v → ⊥
  no_cost x v h = none-some _ (sym (ap cost_of (unknown x)) ∙ h)

  pub ready_first : Ready o g s ls (begin s) o.start
  ready_first = record {
    sound = record {
      reach = λ x v h. absurd (no_cost x v h);
      order = λ x y v w dx dy hx hy. absurd (no_cost x v hx);
    };
    route = record { path = []; goes = tt; ends = refl; costs = refl; leads = refl; over = tt; once = refl };
    top = λ x w d h. absurd (no_cost x w h);
  }

  pub searching_first : (t : ℕ) (ms : Labels V) → Moved o ls ms → Ready o g s ms (begin s) o.start → Covers o g t ms (begin s) o.start → Searching o g s t ms
  searching_first t ms moved ready covers = record {
    sound = ready.sound;
    first = covers;
    closed = λ x v d h. absurd (true≢false (sym d ∙ moved.flags x ∙ ap is_settled (unknown x)));
  }

  pub not_yet_first : (t : ℕ) (ms : Labels V) → Moved o ls ms → NotYet t ms
  not_yet_first t ms moved x e = moved.flags x ∙ ap is_settled (unknown x)

module _ {V : Type 0} {o : Ops V} (laws : Laws o) (g : Scene) (charged : (e : Step) → IfSome (g.fare e) (λ w. w < absent)) (s t : ℕ) (ls : Labels V)
    (searching : Searching o g s t ls) (yet : NotYet t ls) where
  -- some open arrival is known at no more than w
  abbrev OpenAtMost : V → Type 0
  OpenAtMost w = (y : Arrival) × (is_settled (ls y) ≡ false) × KnownAtMost o ls y w

  -- an open arrival is one itself, and so is one at t
  open_more : (v w : V) → OpenAtMost v → o.at_most v w ≡ true → OpenAtMost w
  open_more v w h m = (h.0, h.1, known_more laws ls h.0 v w h.2 m)

  reached_open : (v : V) → ReachedAtMost o ls t v → OpenAtMost v
  reached_open v r = (r.0, yet r.0 r.1, r.2)

  -- what a path costs that takes a step at v and then goes on
  on : (b : Option ℕ) (v : V) (d : Step) (p : List Step) → after_all o v (charges g b (d ∷ p)) ≡ after_all o (after_step o g b v d) (charges g (Some d.channel) p)
  on b v d p = fold-append (after o) v (step_charges g b d) (charges g (Some d.channel) p)

  module _ (d : Step) (p : List Step) (then : (w : V) → KnownAtMost o ls (arrival_of g.net d) w → OpenAtMost (after_all o w (charges g (Some d.channel) p))) where
    -- it takes a step on the channel on which it has come
    straight : (a : Point) (v : V) → a.entered ≡ Some d.channel → GoesOn g a d → Covered o g t ls a v d → OpenAtMost (after_all o (after_step o g a.entered v d) (charges g (Some d.channel) p))
    straight a v same goes c =
        let w = after_step o g a.entered v d in
        ⊎_elim
        (λ r. ⊎_elim (then w) (λ q. open_more w _ (reached_open w q) (charges_upward laws g charged (Some d.channel) w p)) r)
        (λ q. absurd (q.0 same)) c

    -- or any step
    stepped : (a : Point) (v : V) → GoesOn g a d → Covered o g t ls a v d → OpenAtMost (after_all o (after_step o g a.entered v d) (charges g (Some d.channel) p))
    stepped a v goes c =
        let w = after_step o g a.entered v d in
        let z = arrival a.node d.channel in
        ⊎_elim
        (λ r. ⊎_elim (then w) (λ q. open_more w _ (reached_open w q) (charges_upward laws g charged (Some d.channel) w p)) r)
        (λ q.
        let k = q.1 in
        ⊎_elim
        (λ settled.
        let goes' : GoesOn g (point_of z) d = (goes.0, goes.1, inl refl) in
        let m = left_monotone laws g charged a v d k.0 goes.1 k.2 in
        open_more _ _ (straight (point_of z) k.0 refl goes' (searching.closed z k.0 settled k.1 d goes'))
        (run_monotone laws (charges g (Some d.channel) p) (charges_tariffs laws g charged (Some d.channel) p) (after_step o g (Some d.channel) k.0 d) w m))
        (λ free. (z, free, (k.0, k.1, laws.transitive k.0 w _ (left_upward laws g charged a v d k.0 goes.1 k.2) (charges_upward laws g charged (Some d.channel) w p))))
        (cases_Bool (is_settled (ls z))))
        c

  -- a path that goes on to t from an arrival that is known at no more
  follow : (p : List Step) (x : Arrival) (v : V) → KnownAtMost o ls x v → Goes g (point_of x) p → (end_of g.net (point_of x) p).node ≡ t → OpenAtMost (after_all o v (charges g (Some x.channel) p))
  follow [] x v h goes e = (x, yet x e, h)
  follow (d ∷ p) x v h goes e =
      ⊎_elim
      (λ q.
      let k = stepped d p (λ w k. follow p (arrival_of g.net d) w k goes.1 e) (point_of x) h.0 goes.0 (searching.closed x h.0 q h.1 d goes.0) in
      let m = step_monotone laws g charged (Some x.channel) h.0 v d h.2 in
      subst OpenAtMost (sym (on (Some x.channel) v d p))
      (open_more _ _ k (run_monotone laws (charges g (Some d.channel) p) (charges_tariffs laws g charged (Some d.channel) p) _ _ m)))
      (λ q. (x, q, known_more laws ls x v _ h (charges_upward laws g charged (Some x.channel) v (d ∷ p))))
      (cases_Bool (is_settled (ls x)))

  covered : (q : List Step) → IsSemilightpath g s t q → OpenAtMost (cost o g q)
  covered [] h = absurd (omega (arith, h.0))
  covered (e ∷ q) h =
      subst OpenAtMost (sym (on None o.start e q))
      (stepped e q (λ w k. follow q (arrival_of g.net e) w k h.1.1 h.2) (begin s) o.start h.1.0 (searching.first e h.1.0))

  -- where no open arrival costs less than the best at t, no semilightpath does
  pub reached_least : (h : Goal V) → IsReached o ls h → (q : List Step) → IsSemilightpath g s t q → is_bound o h.best (cost o g q) ≡ true
  reached_least h reached q p =
      let k = covered q p in
      bound_more laws h.best k.2.0 (cost o g q) (reached k.0 k.2.0 k.1 k.2.1) k.2.2

  -- the path that the labels lead along to an arrival at t which costs no more than any semilightpath; it is read off them, or off others that show as much
  pub found_is : (ms : Labels V) → ((x : Arrival) (r : Step × Point) → back (ls x) ≡ Some r → IsInside g.net.counts x) → ((x : Arrival) (r : Step × Point) → back (ls x) ≡ Some r → back (ms x) ≡ Some r)
      → (x : Arrival) (v : V) → cost_of (ls x) ≡ Some v → ((q : List Step) → IsSemilightpath g s t q → o.at_most v (cost o g q) ≡ true) → x.node ≡ t → IsCheapest o g s t (trail ms (arrival_entries g.net.counts) (point_of x)) v
  found_is ms inside shows x v known least e =
      let r = searching.sound.reach x v known in
      let short = path_short g.net ls (begin s) r.path (point_of x) inside r.leads r.once in
      let is = trail_is g.net ms s r.path (point_of x) (arrival_entries g.net.counts) (leads_shown g.net ls ms (begin s) r.path (point_of x) shows r.leads) short in
      subst (λ (p : List Step). IsCheapest o g s t p v) (sym is) (record {
        path = (some r.path r.ends, r.goes, ap (λ (a : Point). a.node) r.ends ∙ e);
        once = distinct_apart g.net r.path r.once;
        priced = r.costs;
        least = least;
      })
    where
      some : (p : List Step) → end_of g.net (begin s) p ≡ point_of x → 1 ≤ length p
      some [] q = absurd (none-some _ (ap (λ (a : Point). a.entered) q))
      some (d ∷ p) q = omega arith
