-- What a call by a kind of cost comes to, it comes to in numbers.
use Rattle.std.proofs.Common.{◌≡◌, ℕ, List, None, Some, Ok, Err, Option, Result, refl, sym, ap, ◌∙◌}
use Rattle.fault.specs.Judging.{unless}
use Rattle.fault.specs.declared.book.BookFault.{BookFault}
use Rattle.network.specs.declared.counts.Counts.{Counts}
use Rattle.network.specs.declared.step.Step.{Step}
use Rattle.network.specs.Net.{Net}
use Rattle.cost.specs.Laws.{Ops}
use Rattle.cost.specs.Numbers.{Numbering, in_numbers}
use Rattle.semilightpath.specs.Scenes.{Scene, alone}
use Rattle.semilightpath.specs.Costs.{cost}
use Rattle.semilightpath.proofs.Numbered.{cheapest_numbered, least_numbered, cost_numbered}
use Rattle.pricing.specs.Pricing.{Prices}
use Rattle.book.specs.declared.offer.Offered.{Offered}
use Rattle.book.specs.State.{Tables}
use Rattle.book.specs.Changes.{path_in, Makes}
use Rattle.book.specs.Refusing.{offer_refusal, trial_refusal, reckon_refusal}
use Rattle.book.specs.Answering.{scene_in, scene_without, OfferAnswers, offer_change}
use Rattle.book.specs.Numbered.{offer_in_numbers, cost_in_numbers}
use Rattle.book.specs.Calls.{Offers, Tries, Reckons}

module _ {V : Type 0} (c : Numbering V) (o : Ops V) (w : Net) (n : Counts) (x : Tables) where
  pub offers_numbered : (mark circuit s t room : ℕ) (r : Result (Offered V) BookFault) (y : Tables) → Offers o w n mark x circuit s t room r y → Offers (in_numbers c o) w n mark x circuit s t room (offer_in_numbers c r) y
  offers_numbered mark circuit s t room r y offers = record { answer = answer (offer_refusal n w.counts x circuit s t room) r offers.answer; change = change r offers.change }
    where
      p : List Step
      p = path_in n y circuit

      answer : (due : Option BookFault) (r : Result (Offered V) BookFault) → OfferAnswers o (scene_in w x) mark circuit s t p due r → OfferAnswers (in_numbers c o) (scene_in w x) mark circuit s t p due (offer_in_numbers c r)
      answer (Some f) (Ok q) h = cc
      answer (Some f) (Err g) h = cc
      answer None (Ok q) h = record { cheapest = cheapest_numbered c o (scene_in w x) s t p q.cost h.cheapest; steps = h.steps; mark = h.mark; circuit = h.circuit }
      answer None (Err g) h = h

      change : (r : Result (Offered V) BookFault) → Makes n (offer_change circuit s t p r) x y → Makes n (offer_change circuit s t p (offer_in_numbers c r)) x y
      change (Ok q) h = h
      change (Err g) h = h

  pub tries_numbered : (s t e room : ℕ) (r : Result V BookFault) → Tries o w n x s t e room r → Tries (in_numbers c o) w n x s t e room (cost_in_numbers c r)
  tries_numbered s t e room = go (trial_refusal n w.counts s t e room)
    where
      g : Scene
      g = scene_without w x e

      go : (due : Option BookFault) (r : Result V BookFault) → Prices o g s t due r → Prices (in_numbers c o) g s t due (cost_in_numbers c r)
      go (Some f) (Ok v) h = cc
      go (Some f) (Err i) h = cc
      go None (Ok v) h = least_numbered c o g s t v h
      go None (Err i) h = h

  pub reckons_numbered : (circuit : ℕ) (r : Result V BookFault) → Reckons o w n x circuit r → Reckons (in_numbers c o) w n x circuit (cost_in_numbers c r)
  reckons_numbered circuit r h = ap (cost_in_numbers c) h ∙ go (reckon_refusal n w.counts x circuit)
    where
      p : List Step
      p = path_in n x circuit

      go : (due : Option BookFault) → cost_in_numbers c (unless due (cost o (alone w) p)) ≡ unless due (cost (in_numbers c o) (alone w) p)
      go None = ap Ok (sym (cost_numbered c o (alone w) p))
      go (Some f) = refl
