-- Which refusals are due by an account, before anything is searched.
use Rattle.std.specs.Prelude.{ℕ, Bool, not, ◌&&◌, [], ◌∷◌, ◌++◌, Option}
use Rattle.fault.specs.Judging.{first}
use Rattle.fault.specs.declared.book.BookFault.{BookFault}
use Rattle.network.specs.declared.counts.Counts.{Counts}
use Rattle.network.specs.Net.{Net}
use Rattle.book.specs.declared.offer.Offer.{Offer}
use Rattle.book.specs.Refusing.{of_spending, of_darkening, of_ordered, of_room, of_path, of_buffer, trial_refusal}
use Rattle.account.specs.Events.{Asked}
use Rattle.account.specs.Accounts.{Account, stands_by, path_by}

-- of an offer for circuit c, at a book that was opened for the counts n
abbrev pub offer_due : Counts → Account → Asked → ℕ → Option BookFault
offer_due n a q c = first (of_ordered n q.net.counts (not (stands_by a c)) c q.from q.to ++ of_room q.net.counts q.room ∷ [])

-- of an offer in hand, at a book with this mark, where l tells which circuits are lit
abbrev pub spend_due : ℕ → Account → (ℕ → Bool) → Offer → Option BookFault
spend_due mark a l o = first (of_spending mark (stands_by a o.circuit && not (l o.circuit)) o)

-- of circuit c that is to be darkened
abbrev pub darken_due : (ℕ → Bool) → ℕ → Option BookFault
darken_due l c = first (of_darkening (l c) c)

-- of a trial with span e shut
abbrev pub trial_due : Counts → Asked → ℕ → Option BookFault
trial_due n q e = trial_refusal n q.net.counts q.from q.to e q.room

-- of a slip of circuit c, into a buffer with room for so many settings
abbrev pub slip_due : Counts → Account → Net → ℕ → ℕ → Option BookFault
slip_due n a w c room = first (of_path n w.counts (stands_by a c) c ++ of_buffer (path_by a c) room ∷ [])

-- of what its path costs
abbrev pub reckon_due : Counts → Account → Net → ℕ → Option BookFault
reckon_due n a w c = first (of_path n w.counts (stands_by a c) c)
