-- The calls of a book, with what they are given and what they answer.
use Rattle.std.specs.Prelude.{ℕ, List, Option, Result}
use Rattle.fault.specs.declared.book.BookFault.{BookFault}
use Rattle.network.specs.declared.step.Step.{Step}
use Rattle.network.specs.Net.{Net}
use Rattle.cost.specs.Laws.{Ops}
use Rattle.slip.specs.declared.setting.Setting.{Setting}
use Rattle.book.specs.declared.offer.Offer.{Offer}
use Rattle.book.specs.declared.offer.Offered.{Offered}
use Rattle.book.specs.declared.status.Status.{Status}

-- what a search is asked for: over a network, by a kind of cost in numbers, from a node to a node, with room for so many labels
pub record Asked : Type 0 where
  pub net : Net
  pub kind : Ops ℕ
  pub from : ℕ
  pub to : ℕ
  pub room : ℕ

pub data Event : Type 0 where
  -- an offer for a circuit: the path that the circuit has then, which is the one that an accepted offer took, and the answer
  offers : Asked → ℕ → List Step → Result (Offered ℕ) BookFault → Event
  -- an offer in hand is confirmed, or withdrawn
  confirms : Offer → Result ℕ (BookFault × Offer) → Event
  withdraws : Offer → Result ℕ (BookFault × Offer) → Event
  -- a circuit is darkened
  darkens : ℕ → Result ℕ BookFault → Event
  -- a span is shut
  shuts : ℕ → Result (Unit {0}) BookFault → Event
  -- a price is tried with a span shut
  tries : Asked → ℕ → Result ℕ BookFault → Event
  -- a circuit's slip is written over a network into a buffer: what the buffer held, the answer, and what it holds then
  slips : Net → ℕ → List Setting → Result ℕ BookFault → List Setting → Event
  -- a circuit is looked at
  looks : ℕ → Result (Option Status) BookFault → Event
  -- its path is reckoned, over a network and by a kind of cost in numbers
  reckons : Net → Ops ℕ → ℕ → Result ℕ BookFault → Event
