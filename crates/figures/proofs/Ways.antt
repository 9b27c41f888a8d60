-- The ways through the sample network, of which no more than the carried steps can be used.
use Rattle.std.specs.Option.{IsSome}
use Rattle.std.proofs.Common.{◌≡◌, ℕ, zero, suc, ◌<◌, ◌⊎◌, Bool, true, false, cond, ◌&&◌, List, [], ◌∷◌, Some, None, Option, replicate, refl, ap, sym, subst, inl, inr, arith}
use Rattle.network.specs.Net.{tariff_of}
use Rattle.network.specs.Steps.{step, Within, distinct}
use Rattle.network.specs.declared.step.Step.{Step}
use Rattle.cost.specs.Laws.{Ops}
use Rattle.records.specs.declared.state.SpanState.{SpanState}
use Rattle.semilightpath.specs.Scenes.{Scene, scene}
use Rattle.semilightpath.specs.Paths.{begin, past, Joins, GoesOn, Goes, end_of, IsSemilightpath}
use Rattle.semilightpath.specs.Costs.{cost}
use Rattle.semilightpath.specs.Cheapest.{HasNone, IsLeastCost}
use Rattle.semilightpath.specs.declared.point.Point.{Point}
use Rattle.moment.specs.Usable.{span_is_open, channel_is_free}
use Rattle.figures.specs.Sample.{sample, by_spans}
use Rattle.figures.specs.Figures.{EachIs}

of_two : (P : ℕ → Type 0) → P 0 → P 1 → (n : ℕ) → n < 2 → P n
of_two P a b zero h = a
of_two P a b (suc zero) h = b
of_two P a b (suc (suc n)) h = absurd (omega arith)

of_four : (P : ℕ → Type 0) → P 0 → P 1 → P 2 → P 3 → (n : ℕ) → n < 4 → P n
of_four P a b c d zero h = a
of_four P a b c d (suc zero) h = b
of_four P a b c d (suc (suc zero)) h = c
of_four P a b c d (suc (suc (suc zero))) h = d
of_four P a b c d (suc (suc (suc (suc n)))) h = absurd (omega arith)

-- the step's span carries its channel
abbrev pub IsCarried : Step → Type 0
IsCarried e = IsSome (tariff_of sample e.span e.channel)

-- five of the eight steps are carried
of_five : (P : Step → Type 0) → P (step 0 0) → P (step 1 1) → P (step 2 0) → P (step 2 1) → P (step 3 0) → (e : Step) → Within sample.counts e → IsCarried e → P e
of_five P a b c d f e within =
    of_four (λ n. IsCarried (step n e.channel) → P (step n e.channel))
    (of_two (λ m. IsCarried (step 0 m) → P (step 0 m)) (λ h. a) (λ h. cc) e.channel within.1)
    (of_two (λ m. IsCarried (step 1 m) → P (step 1 m)) (λ h. cc) (λ h. b) e.channel within.1)
    (of_two (λ m. IsCarried (step 2 m) → P (step 2 m)) (λ h. c) (λ h. d) e.channel within.1)
    (of_two (λ m. IsCarried (step 3 m) → P (step 3 m)) (λ h. f) (λ h. cc) e.channel within.1)
    e.span
    within.0

-- whatever can be used by a book's tables is carried
pub fare_carried : (spans : List SpanState) (e : Step) → IsSome ((by_spans spans).fare e) → IsCarried e
fare_carried spans e = go (span_is_open spans e.span && channel_is_free sample.counts (replicate 8 None) e)
  where
    go : (t : Bool) → IsSome (cond t (tariff_of sample e.span e.channel) None) → IsCarried e
    go true h = h
    go false h = cc

-- a node that was entered on a channel
abbrev at : ℕ → ℕ → Point
at node channel = record { node = node; entered = Some channel }

-- the two ways from 0 to 3, by node 1 and by node 2
abbrev pub by_1 : List Step
by_1 = step 0 0 ∷ step 1 1 ∷ []

abbrev pub by_2 : List Step
by_2 = step 2 0 ∷ step 3 0 ∷ []

-- node 2 converts nothing
unconverted : {A : Type 0} → Joins sample (at 2 1) 0 → A
unconverted j = elim j [ inl e ↦ cc | inr h ↦ cc ]

module _ (f : Step → Option ℕ) (carried : (e : Step) → IsSome (f e) → IsCarried e) where
  abbrev g : Scene
  g = scene sample f

  -- a path goes on by one of the five, from that one's tail
  on_by : (a : Point) (P : Step → Type 0)
      → (0 ≡ a.node → P (step 0 0))
      → (1 ≡ a.node → P (step 1 1))
      → (0 ≡ a.node → P (step 2 0))
      → (0 ≡ a.node → Joins sample a 1 → P (step 2 1))
      → (2 ≡ a.node → Joins sample a 0 → P (step 3 0))
      → (e : Step) → GoesOn g a e → P e
  on_by a P p q r s t e on =
      of_five (λ e. GoesOn g a e → P e) (λ h. p h.1) (λ h. q h.1) (λ h. r h.1) (λ h. s h.1 h.2) (λ h. t h.1 h.2) e on.0.0 (carried e on.0.1) on

  -- no span leaves node 3
  ends : {A : Type 0} (a : Point) → a.node ≡ 3 → (e : Step) → GoesOn g a e → A
  ends {A} a h = on_by a (λ e. A) (λ t. cc) (λ t. cc) (λ t. cc) (λ t j. cc) (λ t j. cc)

  from_3 : (c : ℕ) (p : List Step) → Goes g (at 3 c) p → p ≡ []
  from_3 c [] goes = λ i. []
  from_3 c (e ∷ p) goes = ends (at 3 c) (λ i. 3) e goes.0

  from_1 : (p : List Step) → Goes g (at 1 0) p → (end_of sample (at 1 0) p).node ≡ 3 → p ≡ step 1 1 ∷ []
  from_1 [] goes end = cc
  from_1 (e ∷ p) goes end =
      on_by (at 1 0) (λ e. Goes g (past sample e) p → e ∷ p ≡ step 1 1 ∷ [])
      (λ t. cc) (λ t goes. ap (λ p. step 1 1 ∷ p) (from_3 1 p goes)) (λ t. cc) (λ t j. cc) (λ t j. cc)
      e goes.0 goes.1

  from_2 : (c : ℕ) (p : List Step) → Goes g (at 2 c) p → (end_of sample (at 2 c) p).node ≡ 3 → Joins sample (at 2 c) 0 × (p ≡ step 3 0 ∷ [])
  from_2 c [] goes end = cc
  from_2 c (e ∷ p) goes end =
      on_by (at 2 c) (λ e. Goes g (past sample e) p → Joins sample (at 2 c) 0 × (e ∷ p ≡ step 3 0 ∷ []))
      (λ t. cc) (λ t. cc) (λ t. cc) (λ t j. cc) (λ t j goes. (j, ap (λ p. step 3 0 ∷ p) (from_3 0 p goes)))
      e goes.0 goes.1

  from_0_to_3 : (p : List Step) → IsSemilightpath g 0 3 p → (p ≡ by_1) ⊎ (p ≡ by_2)
  from_0_to_3 [] path = cc
  from_0_to_3 (e ∷ p) path =
      on_by (begin 0) (λ e. Goes g (past sample e) p → (end_of sample (past sample e) p).node ≡ 3 → (e ∷ p ≡ by_1) ⊎ (e ∷ p ≡ by_2))
      (λ t goes end. inl (ap (λ p. step 0 0 ∷ p) (from_1 p goes end)))
      (λ t. cc)
      (λ t goes end. inr (ap (λ p. step 2 0 ∷ p) (from_2 0 p goes end).1))
      (λ t j goes end. unconverted (from_2 1 p goes end).0)
      (λ t j. cc)
      e path.1.0 path.1.1 path.2

  pub none_from_3 : HasNone g 3 0
  none_from_3 [] path = cc
  none_from_3 (e ∷ p) path = ends (begin 3) (λ i. 3) e path.1.0

  -- q costs no less than p, and where it costs no more, its cost is P
  abbrev NoLess : {V : Type 0} → Ops V → (V → Type 0) → List Step → List Step → Type 0
  NoLess o P p q =
      IsSemilightpath g 0 3 q
      → (o.at_most (cost o g p) (cost o g q) ≡ true) × (o.at_most (cost o g q) (cost o g p) ≡ true → P (cost o g q))

  -- the least costs are P where neither way costs less than one that can be used
  pub each_least : {V : Type 0} (o : Ops V) (P : V → Type 0) (p : List Step) → IsSemilightpath g 0 3 p → distinct p ≡ true
      → NoLess o P p by_1 → NoLess o P p by_2 → EachIs (IsLeastCost o g 0 3) P
  each_least {V} o P p path once one two = ((cost o g p, (p, record { path = path; once = once; priced = refl; least = λ q h. (both q h).0 })), each)
    where
      both : (q : List Step) → NoLess o P p q
      both q h = elim (from_0_to_3 q h) [ inl e ↦ subst (NoLess o P p) (sym e) one h | inr e ↦ subst (NoLess o P p) (sym e) two h ]

      each : (v : V) → IsLeastCost o g 0 3 v → P v
      each v (q, c) = subst P c.priced ((both q c.path).1 (rw c.priced (c.least p path)))
