-- What is replied to a request.
use Rattle.std.specs.Prelude.{ℕ, Ok, Err, Result}
use Rattle.fault.specs.Reports.{of_book}
use Rattle.fault.specs.declared.book.BookFault.{BookFault}
use Rattle.cost.specs.declared.fee.Fee.{Fee}
use Rattle.cost.specs.declared.tally.Tally.{Tally}
use Rattle.book.specs.declared.offer.Offered.{Offered}
use Rattle.cabinet.specs.declared.reply.Reply.{Reply}

abbrev pub priced : ℕ → ℕ → ℕ → Reply
priced steps conversions cost = record { refusal = 0; conversions = conversions; cost = cost; count = steps }

abbrev pub counted : ℕ → Reply
counted k = record { refusal = 0; conversions = 0; cost = 0; count = k }

abbrev pub refused : ℕ → Reply
refused k = record { refusal = k; conversions = 0; cost = 0; count = 0 }

abbrev pub counted_or_refused : Result ℕ BookFault → Reply
counted_or_refused (Ok k) = counted k
counted_or_refused (Err f) = refused (of_book f).number

-- an offer's steps and cost, by SUM, FEW and WORST
abbrev pub by_sum : Offered Fee → Reply
by_sum o = priced o.steps 0 o.cost.amount

abbrev pub by_few : Offered Tally → Reply
by_few o = priced o.steps o.cost.conversions o.cost.sum.amount

abbrev pub by_worst : Offered ℕ → Reply
by_worst o = priced o.steps 0 o.cost

abbrev pub done_or_refused : Result (Unit {0}) BookFault → Reply
done_or_refused (Ok u) = counted 0
done_or_refused (Err f) = refused (of_book f).number
