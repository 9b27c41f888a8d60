-- Answers with their costs told as numbers.
use Rattle.std.specs.Prelude.{ℕ, Ok, Err, Result}
use Rattle.fault.specs.declared.book.BookFault.{BookFault}
use Rattle.cost.specs.Numbers.{Numbering}
use Rattle.book.specs.declared.offer.Offered.{Offered}

abbrev pub offer_in_numbers : {V : Type 0} → Numbering V → Result (Offered V) BookFault → Result (Offered ℕ) BookFault
offer_in_numbers c (Ok r) = Ok (record { cost = c.number r.cost; steps = r.steps; offer = r.offer })
offer_in_numbers c (Err f) = Err f

abbrev pub cost_in_numbers : {V : Type 0} → Numbering V → Result V BookFault → Result ℕ BookFault
cost_in_numbers c (Ok v) = Ok (c.number v)
cost_in_numbers c (Err f) = Err f
