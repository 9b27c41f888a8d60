-- An offer without what is told of it.
use Rattle.std.specs.Prelude.{◌≡◌, Ok, Err, Result}
use Rattle.fault.specs.declared.book.BookFault.{BookFault}
use Rattle.book.specs.declared.offer.Offer.{Offer}
use Rattle.book.specs.declared.offer.Offered.{Offered}
use Rattle.book.specs.State.{Tables}

-- the offer in hand alone, or the same refusal
abbrev pub hand_of : {V : Type 0} → Result (Offered V) BookFault → Result Offer BookFault
hand_of (Ok q) = Ok q.offer
hand_of (Err f) = Err f

-- P tells an offer's answer and the tables then; of the answer the offer in hand is told
abbrev pub HandsOver : {V : Type 0} → (Result (Offered V) BookFault → Tables → Type 0) → Result Offer BookFault → Tables → Type 0
HandsOver {V} P r y = (q : Result (Offered V) BookFault) × P q y × (r ≡ hand_of q)
