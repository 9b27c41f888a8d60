-- What comes of an order at the desk, whose room is always enough.
use Rattle.std.proofs.Common.{nat_le, ◌≡◌, ℕ, ◌≤◌, List, [], ◌∷◌, ◌++◌, None, Some, Ok, Err, Option, Result, refl, sym, ap, subst}
use Rattle.std.proofs.lemmas.Bool.{le-leb}
use Rattle.std.proofs.lemmas.Nat.{mul-le}
use Rattle.fault.specs.Judging.{Judgement, first}
use Rattle.fault.specs.declared.book.BookFault.{BookFault}
use Rattle.fault.specs.declared.book.BookFault.TheVariants.{WorkTable}
use Rattle.fault.proofs.Judged.{last_sound}
use Rattle.network.specs.declared.counts.Counts.{Counts}
use Rattle.network.specs.declared.step.Step.{Step}
use Rattle.network.specs.Extents.{Counted}
use Rattle.network.specs.Net.{Net}
use Rattle.network.specs.Tariffs.{arrival_entries}
use Rattle.cost.specs.Laws.{Ops}
use Rattle.semilightpath.specs.Scenes.{Scene}
use Rattle.pricing.specs.Pricing.{Prices}
use Rattle.book.specs.Refusing.{of_order, offer_refusal, of_trial, trial_refusal, of_room}
use Rattle.book.specs.State.{Tables}
use Rattle.book.specs.Answering.{scene_in, scene_without}
use Rattle.book.specs.Changes.{changed_by, Makes}
use Rattle.orders.proofs.Mapped.{ordered_map}
use Rattle.ticket.specs.declared.Order.{Order}
use Rattle.ticket.specs.declared.Trial.{Trial}
use Rattle.ticket.specs.declared.CostKind.{CostKind}
use Rattle.orders.specs.Orders.{Ordered, is_refused, has_none, is_found, lit_changes}
use Rattle.desk.specs.declared.reply.Cost.{Cost}
use Rattle.desk.specs.Replies.{Maps}
use Rattle.desk.specs.Serving.{OrderedBy, ByKind, Orders, Trials}

-- the largest network has 1,024 arrivals, and for so many a desk has room
pub arrivals_few : (n : Counts) → Counted n → arrival_entries n ≤ 1024
arrivals_few n k = mul-le n.nodes n.channels 64 16 k.1 k.4

roomy : (js : List (Judgement BookFault)) (n : Counts) (room : ℕ) → room ≡ 1024 → Counted n → first (js ++ of_room n room ∷ []) ≡ first js
roomy js n room e counted = last_sound js (nat_le (arrival_entries n) room) WorkTable (le-leb (arrival_entries n) room (subst (λ i. arrival_entries n ≤ i) (sym e) (arrivals_few n counted)))

-- the price of a trial is what comes of an order
tried : {V : Type 0} (o : Ops V) (g : Scene) (s t : ℕ) (due : Option BookFault) (r : Result V BookFault) → Prices o g s t due r → Ordered o g s t due (λ p v. r ≡ Ok v) (λ f. r ≡ Err f)
tried o g s t (Some f) r e = is_refused f refl e
tried o g s t None (Ok v) a = is_found refl a.0 v a.1 refl
tried o g s t None (Err f) a = has_none refl a.1 (ap (λ i. Err i) a.0)

-- a value of a kind, told as a cost of that kind
costs_as : {V : Type 0} (f : V → Cost) (a : Result V BookFault) (b : Result Cost BookFault) (v : V) → Maps f a b → a ≡ Ok v → b ≡ Ok (f v)
costs_as f a b v maps e = subst (λ i. Maps f i b) e maps

no_cost : {V : Type 0} (f : V → Cost) (a : Result V BookFault) (b : Result Cost BookFault) (h : BookFault) → Maps f a b → a ≡ Err h → b ≡ Err h
no_cost f a b h maps e = subst (λ i. Maps f i b) e maps

-- a circuit is lit at a cost; or the order is refused, and nothing changes
abbrev pub LitAt : Counts → Tables → Order → Result Cost BookFault → Tables → List Step → Cost → Type 0
LitAt m x q b y p v = (b ≡ Ok v) × (y ≡ changed_by m (lit_changes q.circuit q.from q.to p) x)

abbrev pub Unlit : Tables → Result Cost BookFault → Tables → BookFault → Type 0
Unlit x b y h = (b ≡ Err h) × (y ≡ x)

-- by the kind of cost K
module _ (w : Net) (m : Counts) (x : Tables) (counted : Counted w.counts) (K : CostKind) {V : Type 0} (o : Ops V) (f : V → Cost) (into : (g : Scene) (s t : ℕ) (due : Option BookFault) (P : List Step → Cost → Type 0) (R : BookFault → Type 0) → OrderedBy o f g s t due P R → ByKind K g s t due P R) (a : Result V BookFault) (b : Result Cost BookFault) (maps : Maps f a b) (room : ℕ) (e : room ≡ 1024) where
  -- what is told of the answer, told of the cost
  comes_by : (k : CostKind) → k ≡ K → (g : Scene) (s t : ℕ) (js : List (Judgement BookFault)) (P : List Step → V → Type 0) (P' : List Step → Cost → Type 0) (R R' : BookFault → Type 0)
      → ((p : List Step) (v : V) → P p v → P' p (f v)) → ((h : BookFault) → R h → R' h) → Ordered o g s t (first (js ++ of_room w.counts room ∷ [])) P R → ByKind k g s t (first js) P' R'
  comes_by k is g s t js P P' R R' found refused c =
      subst (λ i. ByKind i g s t (first js) P' R') (sym is)
      (into g s t (first js) P' R' (ordered_map o g s t _ _ _ _ _ _ (roomy js w.counts room e counted) found refused c))

  pub lit_by : (q : Order) (y : Tables) → q.kind ≡ K
      → Ordered o (scene_in w x) q.from q.to (offer_refusal m w.counts x q.circuit q.from q.to room) (λ p v. (a ≡ Ok v) × Makes m (lit_changes q.circuit q.from q.to p) x y) (λ h. (a ≡ Err h) × (y ≡ x))
      → Orders w m x q (LitAt m x q b y) (Unlit x b y)
  lit_by q y is c =
      comes_by q.kind is (scene_in w x) q.from q.to (of_order m w.counts x q.circuit q.from q.to) _ _ _ _ (λ p v r. (costs_as f a b v maps r.0, r.1.tables)) (λ h r. (no_cost f a b h maps r.0, r.1)) c

  pub priced_by : (q : Order) → q.kind ≡ K
      → Ordered o (scene_in w x) q.from q.to (offer_refusal m w.counts x q.circuit q.from q.to room) (λ p v. a ≡ Ok v) (λ h. a ≡ Err h)
      → Orders w m x q (λ p v. b ≡ Ok v) (λ h. b ≡ Err h)
  priced_by q is c =
      comes_by q.kind is (scene_in w x) q.from q.to (of_order m w.counts x q.circuit q.from q.to) _ _ _ _ (λ p v r. costs_as f a b v maps r) (λ h r. no_cost f a b h maps r) c

  pub tried_by : (q : Trial) → q.kind ≡ K
      → Prices o (scene_without w x q.span) q.from q.to (trial_refusal m w.counts q.from q.to q.span room) a
      → Trials w m x q (λ p v. b ≡ Ok v) (λ h. b ≡ Err h)
  tried_by q is c =
      comes_by q.kind is (scene_without w x q.span) q.from q.to (of_trial m w.counts q.from q.to q.span) _ _ _ _ (λ p v r. costs_as f a b v maps r) (λ h r. no_cost f a b h maps r)
      (tried o (scene_without w x q.span) q.from q.to (trial_refusal m w.counts q.from q.to q.span room) a c)
