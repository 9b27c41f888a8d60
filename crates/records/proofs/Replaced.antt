-- The record of one circuit is replaced, and with it records of channels that lie on a path; the rest fits together as before.
use Rattle.std.proofs.Common.{◌≡◌, ◌≢◌, ℕ, ◌<◌, ◌≤◌, true, false, cond, List, length, Some, None, Option, ◌==◌, nat_lt, ltb, slice_set, refl, sym, ap, ◌∙◌, subst, arith, ◌⊎◌, inl, inr}
use Rattle.std.proofs.lemmas.Bool.{cases_Bool, cond-true, lt-ltb, false≢true, false_from_ne_true}
use Rattle.std.proofs.lemmas.Bool.Decides.{eqb_tells}
use Rattle.std.proofs.lemmas.List.{get_or-set_same, get_or-set_other}
use Rattle.network.specs.declared.counts.Counts.{Counts}
use Rattle.network.specs.declared.step.Step.{Step}
use Rattle.network.specs.Steps.{Within, on, distinct}
use Rattle.records.specs.declared.circuit.Circuit.{Circuit}
use Rattle.records.specs.declared.circuit.Circuit.TheVariants as circuit
use Rattle.records.specs.declared.circuit.Route.{Route}
use Rattle.records.specs.Chains.{Channel, channel_at, chain, after, holder, standing, along, circuit_count, circuit_at, route_of, path_of}
use Rattle.records.specs.Sound.{names, AllWithin, Whole, Sound}
use Rattle.records.specs.Changes.{but}
use Rattle.records.specs.Standing.{standing_on, standing_of, stands}
use Rattle.records.proofs.Taken.{AgreeOff, same_chain}

pub route_there : (circuits : List Circuit) (c : ℕ) (k : Circuit) → c < circuit_count → circuit_count ≤ length circuits → route_of (slice_set circuits c k) c ≡ standing k
route_there circuits c k h rows =
    cond-true (ltb c circuit_count) (standing (circuit_at (slice_set circuits c k) c)) None (lt-ltb c circuit_count h) ∙ ap standing (get_or-set_same circuits c k circuit.Free (omega (arith, h, rows)))

pub route_other : (circuits : List Circuit) (c d : ℕ) (k : Circuit) → d ≢ c → route_of (slice_set circuits c k) d ≡ route_of circuits d
route_other circuits c d k ne = ap (λ x. cond (nat_lt d circuit_count) (standing x) None) (get_or-set_other circuits c d k circuit.Free ne)

-- what becomes of the records of the channels on a path P, where circuit c changes
pub record Freshly (n : Counts) (channels channels' : List Channel) (circuits : List Circuit) (c : ℕ) (P : List Step) : Type 0 where
  -- the other records stay
  pub agree : AgreeOff n P channels channels'
  -- no other circuit's path has a step on it
  pub apart : (d : ℕ) (u : Step) → d ≢ c → on u P ≡ true → on u (path_of n channels circuits d) ≡ false
  -- and no record there names another circuit afterwards
  pub unnamed : (d : ℕ) (u : Step) → d ≢ c → Within n u → on u P ≡ true → names d (holder (channel_at n channels' u)) ≡ false

-- what is true of circuit c's path afterwards, by its record k
pub record Fits (n : Counts) (channels' : List Channel) (c : ℕ) (k : Circuit) : Type 0 where
  pub within : AllWithin n (along n channels' (standing k))
  pub apart : distinct (along n channels' (standing k)) ≡ true
  pub whole : (r : Route) → standing k ≡ Some r → Whole n channels' r
  pub named : (u : Step) → Within n u → names c (holder (channel_at n channels' u)) ≡ on u (along n channels' (standing k))

module _ (n : Counts) (channels channels' : List Channel) (circuits : List Circuit) (c : ℕ) (k : Circuit) (P : List Step) (old : Sound n channels circuits) (h : c < circuit_count) (rows : circuit_count ≤ length circuits) (fresh : Freshly n channels channels' circuits c P) where
  off : (d : ℕ) → d ≢ c → (u : Step) → on u (path_of n channels circuits d) ≡ true → Within n u × (on u P ≡ false)
  off d ne u o = (old.within d u o, false_from_ne_true (on u P) (λ p. false≢true (sym (fresh.apart d u ne p) ∙ o)))

  same_route : (d : ℕ) → d ≢ c → (r : Route) → route_of circuits d ≡ Some r → (chain n channels' r.steps (Some r.first) ≡ chain n channels r.steps (Some r.first)) × (after n channels' r.steps (Some r.first) ≡ after n channels r.steps (Some r.first))
  same_route d ne r e = same_chain n P channels channels' fresh.agree r.steps (Some r.first) (λ u o. off d ne u (ap (λ x. on u (along n channels x)) e ∙ o))

  pub path_other : (d : ℕ) → d ≢ c → path_of n channels' (slice_set circuits c k) d ≡ path_of n channels circuits d
  path_other d ne = ap (along n channels') (route_other circuits c d k ne) ∙ go (route_of circuits d) refl
    where
      go : (r : Option Route) → route_of circuits d ≡ r → along n channels' (route_of circuits d) ≡ along n channels (route_of circuits d)
      go None e = ap (along n channels') e ∙ sym (ap (along n channels) e)
      go (Some r) e = ap (along n channels') e ∙ (same_route d ne r e).0 ∙ sym (ap (along n channels) e)

  pub path_there : path_of n channels' (slice_set circuits c k) c ≡ along n channels' (standing k)
  path_there = ap (along n channels') (route_there circuits c k h rows)

  whole_other : (d : ℕ) → d ≢ c → (r : Route) → route_of circuits d ≡ Some r → Whole n channels' r
  whole_other d ne r e =
      let w = old.whole d r e in
      let s = same_route d ne r e in
      record { some = w.some; short = w.short; all = ap length s.0 ∙ w.all; ended = s.1 ∙ w.ended }

  named_other : (d : ℕ) → d ≢ c → (u : Step) → Within n u → names d (holder (channel_at n channels' u)) ≡ on u (path_of n channels circuits d)
  named_other d ne u w = go (cases_Bool (on u P))
    where
      go : (on u P ≡ true) ⊎ (on u P ≡ false) → names d (holder (channel_at n channels' u)) ≡ on u (path_of n channels circuits d)
      go (inl p) = fresh.unnamed d u ne w p ∙ sym (fresh.apart d u ne p)
      go (inr p) = ap (λ x. names d (holder x)) (fresh.agree u w p) ∙ old.named d u w

  -- each circuit is circuit c or another
  each_circuit : (A : ℕ → Type 0) → A c → ((d : ℕ) → d ≢ c → A d) → (d : ℕ) → A d
  each_circuit A there other d = go (eqb_tells d c)
    where
      go : ((d == c ≡ true) × (d ≡ c)) ⊎ ((d == c ≡ false) × (d ≢ c)) → A d
      go (inl e) = subst A (sym e.1) there
      go (inr e) = other d e.1

  pub replaced : Fits n channels' c k → Sound n channels' (slice_set circuits c k)
  replaced new = record {
    within = each_circuit (λ d. (s : Step) → on s (path_of n channels' (slice_set circuits c k) d) ≡ true → Within n s)
        (λ s o. new.within s (ap (on s) (sym path_there) ∙ o)) (λ d ne s o. old.within d s (ap (on s) (sym (path_other d ne)) ∙ o));
    apart = each_circuit (λ d. distinct (path_of n channels' (slice_set circuits c k) d) ≡ true)
        (ap distinct path_there ∙ new.apart) (λ d ne. ap distinct (path_other d ne) ∙ old.apart d);
    whole = each_circuit (λ d. (r : Route) → route_of (slice_set circuits c k) d ≡ Some r → Whole n channels' r)
        (λ r e. new.whole r (sym (route_there circuits c k h rows) ∙ e)) (λ d ne r e. whole_other d ne r (sym (route_other circuits c d k ne) ∙ e));
    named = each_circuit (λ d. (s : Step) → Within n s → names d (holder (channel_at n channels' s)) ≡ on s (path_of n channels' (slice_set circuits c k) d))
        (λ s w. new.named s w ∙ ap (on s) (sym path_there)) (λ d ne s w. named_other d ne s w ∙ ap (on s) (sym (path_other d ne)));
  }

  stands_other : (d : ℕ) → d ≢ c → stands n channels' (slice_set circuits c k) d ≡ stands n channels circuits d
  stands_other d ne = ap (standing_of n channels') (route_other circuits c d k ne) ∙ go (route_of circuits d) refl
    where
      go : (r : Option Route) → route_of circuits d ≡ r → standing_of n channels' (route_of circuits d) ≡ standing_of n channels (route_of circuits d)
      go None e = ap (standing_of n channels') e ∙ sym (ap (standing_of n channels) e)
      go (Some r) e = ap (standing_of n channels') e ∙ ap (λ p. Some (standing_on r.from r.to p)) (same_route d ne r e).0 ∙ sym (ap (standing_of n channels) e)

  -- circuit c stands as its record says, and every other as before
  pub stands_replaced : (d : ℕ) → stands n channels' (slice_set circuits c k) d ≡ but c (standing_of n channels' (standing k)) (stands n channels circuits) d
  stands_replaced d = go (eqb_tells d c)
    where
      go : ((d == c ≡ true) × (d ≡ c)) ⊎ ((d == c ≡ false) × (d ≢ c)) → stands n channels' (slice_set circuits c k) d ≡ but c (standing_of n channels' (standing k)) (stands n channels circuits) d
      go (inl e) = ap (stands n channels' (slice_set circuits c k)) e.1 ∙ ap (standing_of n channels') (route_there circuits c k h rows) ∙ sym (ap (λ b. cond b (standing_of n channels' (standing k)) (stands n channels circuits d)) e.0)
      go (inr e) = stands_other d e.1 ∙ sym (ap (λ b. cond b (standing_of n channels' (standing k)) (stands n channels circuits d)) e.0)
