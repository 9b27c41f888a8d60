-- A path is taken for a free circuit, an offered one is lit, a circuit's path is given back: the records fit together afterwards, and what stands is known.
use Rattle.std.proofs.Common.{◌≡◌, ◌≢◌, ℕ, ◌<◌, ◌≤◌, true, false, List, [], ◌∷◌, length, Some, None, Option, ◌==◌, ltb, slice_set, slice_index_or, refl, sym, ap, ◌∙◌, subst, arith, ◌⊎◌, inl, inr}
use Rattle.std.proofs.lemmas.Bool.{cases_Bool, cond-true, lt-ltb, false≢true, eqb-true, eq-eqb, false_from_ne_true}
use Rattle.std.proofs.lemmas.Option.{none-some}
use Rattle.network.specs.declared.counts.Counts.{Counts}
use Rattle.network.specs.declared.step.Step.{Step}
use Rattle.network.specs.Steps.{step, Within, on, distinct}
use Rattle.network.specs.Tariffs.{span_entries, arrival_entries}
use Rattle.records.specs.declared.circuit.Circuit.{Circuit}
use Rattle.records.specs.declared.circuit.Circuit.TheVariants as circuit
use Rattle.records.specs.declared.circuit.Route.{Route}
use Rattle.records.specs.Chains.{Channel, channel_at, chain, after, holder, standing, along, circuit_count, circuit_at, route_of, path_of}
use Rattle.records.specs.Sound.{names, AllWithin, Whole, Sound}
use Rattle.records.specs.Changes.{first_step, taken, given_back, route_along, but}
use Rattle.records.specs.Standing.{standing_on, standing_of, stands}
use Rattle.records.proofs.Taken.{taken_off, taken_on, spelt, given_back_off, given_back_on}
use Rattle.records.proofs.Replaced.{Freshly, Fits, path_there, replaced, stands_replaced}

not_named : (c d x : ℕ) → names c (Some x) ≡ true → d ≢ c → names d (Some x) ≡ false
not_named c d x e ne = false_from_ne_true (d == x) (λ q. ne (eqb-true d x q ∙ sym (eqb-true c x e)))

-- a path is taken for circuit c, which is free
module _ (n : Counts) (channels : List Channel) (circuits : List Circuit) (c s t : ℕ) (p : List Step) (old : Sound n channels circuits) (h : c < circuit_count) (rows : circuit_count ≤ length circuits) (wide : span_entries n ≤ length channels)
    (free : route_of circuits c ≡ None) (some : 1 ≤ length p) (short : length p ≤ arrival_entries n) (within : AllWithin n p) (once : distinct p ≡ true) (unheld : (u : Step) → on u p ≡ true → channel_at n channels u ≡ None) where
  first_is : (q : List Step) → 1 ≤ length q → Some (slice_index_or q 0 (step 0 0)) ≡ first_step q
  first_is [] l = absurd (omega (arith, l))
  first_is (u ∷ q) l = refl

  spelt_chain : chain n (taken n c p channels) (length p) (Some (slice_index_or p 0 (step 0 0))) ≡ p
  spelt_chain = ap (chain n (taken n c p channels) (length p)) (first_is p some) ∙ (spelt n c p channels within once wide).0

  spelt_after : after n (taken n c p channels) (length p) (Some (slice_index_or p 0 (step 0 0))) ≡ None
  spelt_after = ap (after n (taken n c p channels) (length p)) (first_is p some) ∙ (spelt n c p channels within once wide).1

  taken_freshly : Freshly n channels (taken n c p channels) circuits c p
  taken_freshly = record {
    agree = taken_off n c p channels within;
    apart = λ d u ne o. sym (old.named d u (within u o)) ∙ ap (λ x. names d (holder x)) (unheld u o);
    unnamed = λ d u ne w o. ap (λ x. names d (holder x)) (taken_on n c p channels within wide u o).1 ∙ not_named c d c (eq-eqb c c refl) ne;
  }

  taken_named : (u : Step) → Within n u → names c (holder (channel_at n (taken n c p channels) u)) ≡ on u p
  taken_named u w = go (cases_Bool (on u p))
    where
      go : (on u p ≡ true) ⊎ (on u p ≡ false) → names c (holder (channel_at n (taken n c p channels) u)) ≡ on u p
      go (inl o) = ap (λ x. names c (holder x)) (taken_on n c p channels within wide u o).1 ∙ eq-eqb c c refl ∙ sym o
      go (inr o) = ap (λ x. names c (holder x)) (taken_off n c p channels within u w o) ∙ old.named c u w ∙ ap (λ r. on u (along n channels r)) free ∙ sym o

  taken_fits : Fits n (taken n c p channels) c (circuit.Offered (route_along s t p))
  taken_fits = record {
    within = λ u o. within u (ap (on u) (sym spelt_chain) ∙ o);
    apart = ap distinct spelt_chain ∙ once;
    whole = λ r e. subst (Whole n (taken n c p channels)) (some_one (route_along s t p) r e) (record { some = some; short = short; all = ap length spelt_chain; ended = spelt_after });
    named = λ u w. taken_named u w ∙ ap (on u) (sym spelt_chain);
  }
    where
      some_one : (a b : Route) → Some a ≡ Some b → a ≡ b
      some_one a b e = cc

  pub taken_sound : Sound n (taken n c p channels) (slice_set circuits c (circuit.Offered (route_along s t p)))
  taken_sound = replaced n channels (taken n c p channels) circuits c (circuit.Offered (route_along s t p)) p old h rows taken_freshly taken_fits

  pub taken_path : path_of n (taken n c p channels) (slice_set circuits c (circuit.Offered (route_along s t p))) c ≡ p
  taken_path = path_there n channels (taken n c p channels) circuits c (circuit.Offered (route_along s t p)) p old h rows taken_freshly ∙ spelt_chain

  pub taken_stands : (d : ℕ) → stands n (taken n c p channels) (slice_set circuits c (circuit.Offered (route_along s t p))) d ≡ but c (Some (standing_on s t p)) (stands n channels circuits) d
  taken_stands d = stands_replaced n channels (taken n c p channels) circuits c (circuit.Offered (route_along s t p)) p old h rows taken_freshly d ∙ ap (λ q. but c (Some (standing_on s t q)) (stands n channels circuits) d) spelt_chain

-- the path of circuit c is given back
module _ (n : Counts) (channels : List Channel) (circuits : List Circuit) (c : ℕ) (old : Sound n channels circuits) (h : c < circuit_count) (rows : circuit_count ≤ length circuits) (wide : span_entries n ≤ length channels) where
  held_by : (u : Step) → on u (path_of n channels circuits c) ≡ true → (d : ℕ) → d ≢ c → names d (holder (channel_at n channels u)) ≡ false
  held_by u o d ne = go (holder (channel_at n channels u)) (old.named c u (old.within c u o) ∙ o)
    where
      go : (x : Option ℕ) → names c x ≡ true → names d x ≡ false
      go None e = refl
      go (Some x) e = not_named c d x e ne

  given_freshly : Freshly n channels (given_back n (path_of n channels circuits c) channels) circuits c (path_of n channels circuits c)
  given_freshly = record {
    agree = given_back_off n (path_of n channels circuits c) channels (old.within c);
    apart = λ d u ne o. sym (old.named d u (old.within c u o)) ∙ held_by u o d ne;
    unnamed = λ d u ne w o. ap (λ x. names d (holder x)) (given_back_on n (path_of n channels circuits c) channels (old.within c) wide u o);
  }

  given_named : (u : Step) → Within n u → names c (holder (channel_at n (given_back n (path_of n channels circuits c) channels) u)) ≡ false
  given_named u w = go (cases_Bool (on u (path_of n channels circuits c)))
    where
      go : (on u (path_of n channels circuits c) ≡ true) ⊎ (on u (path_of n channels circuits c) ≡ false) → names c (holder (channel_at n (given_back n (path_of n channels circuits c) channels) u)) ≡ false
      go (inl o) = ap (λ x. names c (holder x)) (given_back_on n (path_of n channels circuits c) channels (old.within c) wide u o)
      go (inr o) = ap (λ x. names c (holder x)) (given_back_off n (path_of n channels circuits c) channels (old.within c) u w o) ∙ old.named c u w ∙ o

  given_fits : Fits n (given_back n (path_of n channels circuits c) channels) c circuit.Free
  given_fits = record { within = λ u o. absurd (false≢true o); apart = refl; whole = λ r e. absurd (none-some r e); named = given_named }

  pub given_sound : Sound n (given_back n (path_of n channels circuits c) channels) (slice_set circuits c circuit.Free)
  given_sound = replaced n channels (given_back n (path_of n channels circuits c) channels) circuits c circuit.Free (path_of n channels circuits c) old h rows given_freshly given_fits

  pub given_stands : (d : ℕ) → stands n (given_back n (path_of n channels circuits c) channels) (slice_set circuits c circuit.Free) d ≡ but c None (stands n channels circuits) d
  given_stands = stands_replaced n channels (given_back n (path_of n channels circuits c) channels) circuits c circuit.Free (path_of n channels circuits c) old h rows given_freshly

-- circuit c, which was offered, is lit
module _ (n : Counts) (channels : List Channel) (circuits : List Circuit) (c : ℕ) (r : Route) (old : Sound n channels circuits) (h : c < circuit_count) (rows : circuit_count ≤ length circuits) (offered : circuit_at circuits c ≡ circuit.Offered r) where
  route_is : route_of circuits c ≡ Some r
  route_is = cond-true (ltb c circuit_count) (standing (circuit_at circuits c)) None (lt-ltb c circuit_count h) ∙ ap standing offered

  path_is : path_of n channels circuits c ≡ along n channels (Some r)
  path_is = ap (along n channels) route_is

  lit_freshly : Freshly n channels channels circuits c []
  lit_freshly = record { agree = λ u w o. refl; apart = λ d u ne o. absurd (false≢true o); unnamed = λ d u ne w o. absurd (false≢true o) }

  lit_fits : Fits n channels c (circuit.Lit r)
  lit_fits = record {
    within = λ u o. old.within c u (ap (on u) path_is ∙ o);
    apart = sym (ap distinct path_is) ∙ old.apart c;
    whole = λ q e. old.whole c q (route_is ∙ e);
    named = λ u w. old.named c u w ∙ ap (on u) path_is;
  }

  pub lit_sound : Sound n channels (slice_set circuits c (circuit.Lit r))
  lit_sound = replaced n channels channels circuits c (circuit.Lit r) [] old h rows lit_freshly lit_fits

  pub lit_stands : (d : ℕ) → stands n channels (slice_set circuits c (circuit.Lit r)) d ≡ but c (stands n channels circuits c) (stands n channels circuits) d
  lit_stands d = stands_replaced n channels channels circuits c (circuit.Lit r) [] old h rows lit_freshly d ∙ ap (λ x. but c x (stands n channels circuits) d) (sym (ap (standing_of n channels) route_is))
