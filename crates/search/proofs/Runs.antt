-- The end of a search, and one round of it: the least open arrival is settled, and the search goes on.
use Rattle.std.proofs.Common.{◌≡◌, ℕ, ◌<◌, true, false, List, Some, None, Option, refl, sym, ap, ◌∙◌, subst, ⊎_elim}
use Rattle.std.proofs.lemmas.Option.{none-some}
use Rattle.std.proofs.lemmas.Bool.{true≢false}
use Rattle.std.specs.Option.{IfSome}
use Rattle.std.specs.Prelude.{⊤}
use Rattle.network.specs.Tariffs.{absent}
use Rattle.network.specs.declared.counts.Counts.{Counts}
use Rattle.network.specs.declared.step.Step.{Step}
use Rattle.cost.specs.Laws.{Ops, Laws}
use Rattle.semilightpath.specs.declared.point.Point.{Point}
use Rattle.semilightpath.specs.Scenes.{Scene}
use Rattle.semilightpath.specs.Paths.{begin, IsSemilightpath}
use Rattle.semilightpath.specs.Costs.{cost}
use Rattle.search.specs.declared.arrival.Arrival.{Arrival}
use Rattle.search.specs.declared.label.Known.{Known}
use Rattle.search.specs.declared.goal.Best.{Best}
use Rattle.search.specs.declared.goal.Goal.{Goal}
use Rattle.search.specs.Answers.{IsOutcome}
use Rattle.search.specs.Goals.{is_bound, found_at}
use Rattle.search.specs.declared.work.Work.{Work}
use Rattle.search.specs.Labels.{Labels, IsInside, labels_in, cost_of, is_settled, settle, back, arrival, point_of}
use Rattle.search.specs.Works.{labels_of}
use Rattle.search.specs.Invariants.{Bounds, Covered, Tried, Tries, Written, IsLeast, IsReached, NotYet, Searching, KeepsSettled}
use Rattle.search.proofs.Rows.{known_inside}
use Rattle.search.proofs.Proposals.{label_after}
use Rattle.search.proofs.Settles.{is_settle, costs_stay, ready_then, searching_then}
use Rattle.search.proofs.Aims.{bounds_same}
use Rattle.search.proofs.Ends.{ready_first, searching_first, not_yet_first, reached_least, found_is}
use Rattle.search.proofs.Left.{left, left_falls}

-- an arrival with a way back is one of the network
back_inside : {V : Type 0} (n : Counts) (table : List (Option (Known V))) (x : Arrival) (r : Step × Point) → back (labels_in n table x) ≡ Some r → IsInside n x
back_inside n table x r h = known_inside n table x (λ e. none-some _ (sym (ap back e) ∙ h))

-- where no open arrival costs less than the best at the goal, that is found
module _ {K V : Type 0} {kind : _} {display : _} {o : Ops V} (laws : Laws o) (g : Scene) (charged : (e : Step) → IfSome (g.fare e) (λ w. w < absent)) (s t : ℕ) (work : Work K V kind display) (h : Goal V) (here : h.node ≡ t) (counts : work.extent.counts ≡ g.net.counts)
    (searching : Searching o g s t (labels_of work)) (yet : NotYet t (labels_of work)) (bounds : Bounds o (labels_of work) h) (reached : IsReached o (labels_of work) h) where
  least : (b : Option (Best V)) → h.best ≡ b → (q : List Step) → IsSemilightpath g s t q → is_bound o b (cost o g q) ≡ true
  least b e q p = ap (λ (z : Option (Best V)). is_bound o z (cost o g q)) (sym e) ∙ reached_least laws g charged s t (labels_of work) searching yet h reached q p

  back_of : (y : Arrival) (r : Step × Point) → back (labels_of work y) ≡ Some r → IsInside g.net.counts y × (back (labels_in g.net.counts work.labels.now y) ≡ Some r)
  back_of y r k = (
    subst (λ (n : Counts). IsInside n y) counts (back_inside work.extent.counts work.labels.now y r k),
    subst (λ (n : Counts). back (labels_in n work.labels.now y) ≡ Some r) counts k,
  )

  outcome : (b : Option (Best V)) → h.best ≡ b → IfSome b (λ b. cost_of (labels_of work (arrival h.node b.channel)) ≡ Some b.cost) → IsOutcome o g s t work.labels.now (found_at h.node b)
  outcome None e k = λ q p. true≢false (sym (least None e q p))
  outcome (Some b) e k = found_is laws g charged s t (labels_of work) searching yet (labels_in g.net.counts work.labels.now) (λ y r i. (back_of y r i).0) (λ y r i. (back_of y r i).1) (arrival h.node b.channel) b.cost k (least (Some b) e) here

  pub run_ends : IsOutcome o g s t work.labels.now (found_at h.node h.best)
  run_ends = outcome h.best refl bounds.known

module _ {K V : Type 0} {kind : _} {display : _} {o : Ops V} (laws : Laws o) (g : Scene) (t : ℕ) (old new : Work K V kind display) (x : Arrival) (a : Point) (v : V) (stands : a ≡ point_of x)
    (least : IsLeast o (labels_of old) x v) (written : Written (labels_of old) (labels_of new) x (settle (labels_of old x))) where
  -- the search goes on
  pub round_goes_on : (h k : Goal V) (ns : Labels V) (s : ℕ) → h.node ≡ t → k.node ≡ t → is_bound o h.best v ≡ false → Tries o g h k (labels_of new) ns a v (λ e. ⊤)
      → Searching o g s t (labels_of old) → Bounds o (labels_of old) h → NotYet t (labels_of old) → Searching o g s t ns × Bounds o ns k × NotYet t ns
  round_goes_on h k ns s was is below tries searching bounds yet =
      let tried = subst (λ (z : Point). Tries o g h k (labels_of new) ns z v (λ e. ⊤)) stands tries s (ready_then laws g s t (labels_of old) (labels_of new) x v searching least written)
      (bounds_same o (labels_of old) (labels_of new) (costs_stay laws g s t (labels_of old) (labels_of new) x v searching least written) h bounds) in (
        searching_then laws g s t (labels_of old) (labels_of new) x v searching least written ns tried.moved tried.ready (λ e goes. subst (λ n. Covered o g n ns (point_of x) v e) is (tried.covers e goes tt)),
        tried.bounds,
        λ y e. tried.moved.flags y ∙ ⊎_elim (λ q. absurd (true≢false (sym (bounds.nearest x v (ap (λ (z : Arrival). z.node) (sym q.0) ∙ e ∙ sym was) least.known) ∙ below))) (λ q. ap is_settled q.1 ∙ yet y e) (label_after written y),
      )

  -- with fewer arrivals left
  pub round_falls : (ns : Labels V) → old.extent.counts ≡ g.net.counts → KeepsSettled (labels_of new) ns → left g.net.counts ns < left g.net.counts (labels_of old)
  round_falls ns p kept =
      let now : is_settled (labels_of new x) ≡ true = ap is_settled written.there ∙ is_settle (labels_of old x) v least.known in
      subst (λ (n : Counts). left n ns < left n (labels_of old)) p (left_falls old.extent.counts (labels_of old) ns x
      (known_inside old.extent.counts old.labels.now x (λ e. none-some _ (sym (ap cost_of e) ∙ least.known)))
      least.unsettled (kept x ∙ now)
      (λ y d. kept y ∙ ⊎_elim (λ q. ap (λ z. is_settled (labels_of new z)) q.0 ∙ now) (λ q. ap is_settled q.1 ∙ d) (label_after written y)))

-- where nothing is known, the steps from s are tried first
module _ {V : Type 0} {o : Ops V} (laws : Laws o) (g : Scene) (s : ℕ) (h k : Goal V) (ls ms : Labels V) (a : Point) (v : V) (unknown : (x : Arrival) → ls x ≡ None) (free : h.best ≡ None) (stands : a ≡ begin s) (starts : v ≡ o.start)
    (tries : Tries o g h k ls ms a v (λ e. ⊤)) where
  none_bounds : Bounds o ls h
  none_bounds = record {
    known = subst (λ (z : Option (Best V)). IfSome z (λ b. cost_of (ls (arrival h.node b.channel)) ≡ Some b.cost)) (sym free) tt;
    nearest = λ y u e c. absurd (none-some _ (sym (ap cost_of (unknown y)) ∙ c));
  }

  tried : Tried o g s k ls ms (begin s) o.start (λ e. ⊤)
  tried = subst (λ (z : V). Tries o g h k ls ms (begin s) z (λ e. ⊤)) starts (subst (λ (z : Point). Tries o g h k ls ms z v (λ e. ⊤)) stands tries) s (ready_first laws g s ls unknown) none_bounds

  pub first_searches : Searching o g s k.node ms
  first_searches = searching_first laws g s ls unknown k.node ms tried.moved tried.ready (λ e goes. tried.covers e goes tt)

  pub first_bounds : Bounds o ms k
  first_bounds = tried.bounds

  pub first_not_yet : NotYet k.node ms
  first_not_yet = not_yet_first laws g s ls unknown k.node ms tried.moved
