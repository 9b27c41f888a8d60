-- What each call of a book comes to: which answer is right, and what it changes. Tables x stood before, and y stand after; n are the counts that the book was opened for, and mark its mark.
use Rattle.std.specs.Prelude.{◌≡◌, ℕ, ◌+◌, List, length, Option, Result}
use Rattle.fault.specs.Judging.{unless}
use Rattle.fault.specs.declared.book.BookFault.{BookFault}
use Rattle.network.specs.declared.counts.Counts.{Counts}
use Rattle.network.specs.Net.{Net}
use Rattle.cost.specs.Laws.{Ops}
use Rattle.semilightpath.specs.Scenes.{alone}
use Rattle.semilightpath.specs.Costs.{cost}
use Rattle.slip.specs.declared.setting.Setting.{Setting}
use Rattle.pricing.specs.Pricing.{Prices}
use Rattle.book.specs.declared.offer.Offer.{Offer}
use Rattle.book.specs.declared.offer.Offered.{Offered}
use Rattle.book.specs.declared.status.Status.{Status}
use Rattle.book.specs.Answering.{scene_in, scene_without, OfferAnswers, offer_change, spent, unrefused, seen, slipped}
use Rattle.book.specs.Changes.{lights, frees, shuts, circuit_in, path_in, Makes}
use Rattle.book.specs.Refusing.{offer_refusal, spend_refusal, darken_refusal, look_refusal, trial_refusal, slip_refusal, reckon_refusal, shut_refusal}
use Rattle.book.specs.State.{Tables}

-- an offer of circuit c from s to t over network w, by a kind of cost, with room for so many labels: the path is the one that the circuit then has
pub record Offers {V : Type 0} (o : Ops V) (w : Net) (n : Counts) (mark : ℕ) (x : Tables) (c s t room : ℕ) (r : Result (Offered V) BookFault) (y : Tables) : Type 0 where
  pub answer : OfferAnswers o (scene_in w x) mark c s t (path_in n y c) (offer_refusal n w.counts x c s t room) r
  pub change : Makes n (offer_change c s t (path_in n y c) r) x y

-- an offer in hand is confirmed
pub record Confirms (n : Counts) (mark : ℕ) (x : Tables) (f : Offer) (r : Result ℕ (BookFault × Offer)) (y : Tables) : Type 0 where
  pub answer : r ≡ spent (spend_refusal mark x f) f f.circuit
  pub change : Makes n (unrefused (spend_refusal mark x f) (lights f.circuit)) x y

-- or withdrawn
pub record Withdraws (n : Counts) (mark : ℕ) (x : Tables) (f : Offer) (r : Result ℕ (BookFault × Offer)) (y : Tables) : Type 0 where
  pub answer : r ≡ spent (spend_refusal mark x f) f (length (path_in n x f.circuit))
  pub change : Makes n (unrefused (spend_refusal mark x f) (frees f.circuit)) x y

-- a lit circuit is darkened
pub record Darkens (n : Counts) (x : Tables) (c : ℕ) (r : Result ℕ BookFault) (y : Tables) : Type 0 where
  pub answer : r ≡ unless (darken_refusal x c) (length (path_in n x c))
  pub change : Makes n (unrefused (darken_refusal x c) (frees c)) x y

-- a span is shut
pub record Shuts (n : Counts) (x : Tables) (e : ℕ) (r : Result (Unit {0}) BookFault) (y : Tables) : Type 0 where
  pub answer : r ≡ unless (shut_refusal n e) tt
  pub change : Makes n (unrefused (shut_refusal n e) (shuts e)) x y

-- the least cost from s to t is asked for, with span e shut
abbrev pub Tries : {V : Type 0} → Ops V → Net → Counts → Tables → ℕ → ℕ → ℕ → ℕ → Result V BookFault → Type 0
Tries o w n x s t e room r = Prices o (scene_without w x e) s t (trial_refusal n w.counts s t e room) r

-- a circuit is looked at
abbrev pub Looks : Counts → Tables → ℕ → Result (Option Status) BookFault → Type 0
Looks n x c r = r ≡ unless (look_refusal c) (seen (circuit_in x c) (path_in n x c))

-- its slip is written into a buffer, which then holds what stands last
pub record Slips (w : Net) (n : Counts) (x : Tables) (c : ℕ) (buffer : List Setting) (r : Result ℕ BookFault) (after : List Setting) : Type 0 where
  pub answer : r ≡ unless (slip_refusal n w.counts x c (length buffer)) (length (path_in n x c) + 1)
  pub settings : after ≡ slipped (slip_refusal n w.counts x c (length buffer)) w (path_in n x c) buffer

-- what its path costs is asked for, by the network's tariffs
abbrev pub Reckons : {V : Type 0} → Ops V → Net → Counts → Tables → ℕ → Result V BookFault → Type 0
Reckons o w n x c r = r ≡ unless (reckon_refusal n w.counts x c) (cost o (alone w) (path_in n x c))
