-- Which answers of the calls on circuits are right, and what change each makes.
use Rattle.std.specs.Prelude.{◌≡◌, ℕ, List, [], ◌∷◌, length, Some, None, Ok, Err, Option, Result}
use Rattle.fault.specs.declared.book.BookFault.{BookFault}
use Rattle.network.specs.declared.step.Step.{Step}
use Rattle.network.specs.Net.{Net}
use Rattle.cost.specs.Laws.{Ops}
use Rattle.semilightpath.specs.Scenes.{Scene, scene}
use Rattle.semilightpath.specs.Cheapest.{IsCheapest}
use Rattle.search.specs.Answers.{Sought}
use Rattle.moment.specs.Usable.{fare_at}
use Rattle.records.specs.declared.circuit.Circuit.{Circuit}
use Rattle.records.specs.declared.circuit.Circuit.TheVariants as circuit
use Rattle.records.specs.declared.circuit.Route.{Route}
use Rattle.slip.specs.declared.setting.Setting.{Setting}
use Rattle.slip.specs.Slips.{slip}
use Rattle.pricing.specs.Pricing.{with_shut}
use Rattle.book.specs.declared.offer.Offer.{Offer}
use Rattle.book.specs.declared.offer.Offered.{Offered}
use Rattle.book.specs.declared.status.Status.{Status}
use Rattle.book.specs.declared.status.State.{State}
use Rattle.book.specs.declared.status.State.TheVariants as state
use Rattle.book.specs.Changes.{Change, takes}
use Rattle.book.specs.State.{Tables}

-- a network with what can be used of it by a book's tables
abbrev pub scene_in : Net → Tables → Scene
scene_in w x = scene w (fare_at w x.channels x.spans)

-- an offer of path p: a cheapest semilightpath, its cost and its steps; in hand is that circuit's offer
pub record IsOffer {V : Type 0} (o : Ops V) (g : Scene) (m c s t : ℕ) (p : List Step) (r : Offered V) : Type 0 where
  pub cheapest : IsCheapest o g s t p r.cost
  pub steps : r.steps ≡ length p
  pub mark : r.offer.mark ≡ m
  pub circuit : r.offer.circuit ≡ c

-- what is told of an offer: that of path p
abbrev pub OfferAnswers : {V : Type 0} → Ops V → Scene → ℕ → ℕ → ℕ → ℕ → List Step → Option BookFault → Result (Offered V) BookFault → Type 0
OfferAnswers o g m c s t p due r = Sought g s t (IsOffer o g m c s t p) due r

abbrev pub offer_change : {V : Type 0} → ℕ → ℕ → ℕ → List Step → Result (Offered V) BookFault → List Change
offer_change c s t p (Ok r) = takes c s t p ∷ []
offer_change c s t p (Err f) = []

-- a network with what could be used of it if span e were shut
abbrev pub scene_without : Net → Tables → ℕ → Scene
scene_without w x e = scene w (fare_at w x.channels (with_shut e x.spans))

-- what an offer in hand is spent for, or the offer itself handed back with the refusal
abbrev pub spent : {A : Type 0} → Option BookFault → Offer → A → Result A (BookFault × Offer)
spent None o x = Ok x
spent (Some f) o x = Err (f, o)

-- the change of a call that is not refused; a refused one makes none
abbrev pub unrefused : Option BookFault → Change → List Change
unrefused None h = h ∷ []
unrefused (Some f) h = []

abbrev pub status : State → Route → List Step → Status
status s r p = record { state = s; from = r.from; to = r.to; steps = length p }

-- what is seen of a circuit with path p: nothing where it is free
abbrev pub seen : Circuit → List Step → Option Status
seen circuit.Free p = None
seen (circuit.Offered r) p = Some (status state.Offered r p)
seen (circuit.Lit r) p = Some (status state.Lit r p)

-- a buffer with the slip of path p, or as it was where that is refused
abbrev pub slipped : Option BookFault → Net → List Step → List Setting → List Setting
slipped None w p buffer = slip w p (length buffer)
slipped (Some f) w p buffer = buffer
