-- A path that was found over what can be used can be taken.
use Rattle.std.proofs.Common.{◌≡◌, ℕ, ◌<◌, ◌≤◌, Bool, true, false, cond, ◌||◌, List, [], ◌∷◌, length, None, Some, Option, is_none, ltb, refl, sym, ap, ◌∙◌, subst, ◌⊎◌, inl, inr}
use Rattle.std.specs.Option.{IsSome}
use Rattle.std.proofs.lemmas.Bool.{and_parts, cases_Bool, cond-true, lt-ltb, false≢true}
use Rattle.network.specs.declared.step.Step.{Step}
use Rattle.network.specs.Net.{Net, tariff_of}
use Rattle.network.specs.Steps.{same, on}
use Rattle.network.specs.Tariffs.{arrival_entries}
use Rattle.cost.specs.Laws.{Ops}
use Rattle.semilightpath.specs.declared.point.Point.{Point}
use Rattle.semilightpath.specs.Scenes.{Scene}
use Rattle.semilightpath.specs.Paths.{IsUsable, Goes, past, begin}
use Rattle.semilightpath.specs.Cheapest.{IsCheapest}
use Rattle.moment.specs.Usable.{span_is_open, channel_is_free}
use Rattle.records.specs.Chains.{Channel, channel_at, circuit_count, circuit_at, standing, route_of}
use Rattle.records.specs.declared.circuit.Circuit.TheVariants as circuit
use Rattle.records.proofs.Channels.{same_step}
use Rattle.book.specs.State.{Tables}
use Rattle.book.specs.Changes.{circuit_in}
use Rattle.book.specs.Answering.{scene_in}
use Rattle.book.specs.Taking.{CanTake}

-- every step of a path can be used
pub usable_on : (g : Scene) (a : Point) (p : List Step) → Goes g a p → (u : Step) → on u p ≡ true → IsUsable g u
usable_on g a [] goes u o = absurd (false≢true o)
usable_on g a (e ∷ p) goes u o = go (usable_on g (past g.net e) p goes.1 u) (cases_Bool (same u e))
  where
    go : (on u p ≡ true → IsUsable g u) → (same u e ≡ true) ⊎ (same u e ≡ false) → IsUsable g u
    go rest (inl q) = subst (IsUsable g) (sym (same_step u e q)) goes.0.0
    go rest (inr q) = rest (sym (ap (λ b. b || on u p) q) ∙ o)

none_is : (r : Channel) → is_none r ≡ true → r ≡ None
none_is None e = refl
none_is (Some h) e = absurd (false≢true e)

fare_only : (b : Bool) (r : Option ℕ) → IsSome (cond b r None) → b ≡ true
fare_only true r h = refl
fare_only false r h = h

-- a channel that can be used is free
pub usable_free : (w : Net) (x : Tables) (u : Step) → IsUsable (scene_in w x) u → channel_at w.counts x.channels u ≡ None
usable_free w x u h =
    none_is _ (and_parts (span_is_open x.spans u.span) (channel_is_free w.counts x.channels u) (fare_only _ (tariff_of w u.span u.channel) h.1)).1

free_route : (x : Tables) (c : ℕ) → c < circuit_count → circuit_in x c ≡ circuit.Free → route_of x.circuits c ≡ None
free_route x c h e = cond-true (ltb c circuit_count) (standing (circuit_at x.circuits c)) None (lt-ltb c circuit_count h) ∙ ap standing e

pub cheapest_can : {V : Type 0} (o : Ops V) (w : Net) (x : Tables) (c s t : ℕ) (p : List Step) (v : V) → c < circuit_count → circuit_in x c ≡ circuit.Free → length p ≤ arrival_entries w.counts → IsCheapest o (scene_in w x) s t p v → CanTake w.counts x c p
cheapest_can o w x c s t p v h e short best = record {
  known = h;
  free = free_route x c h e;
  some = best.path.0;
  short = short;
  within = λ u o. (usable_on (scene_in w x) (begin s) p best.path.1 u o).0;
  once = best.once;
  unheld = λ u o. usable_free w x u (usable_on (scene_in w x) (begin s) p best.path.1 u o);
}
