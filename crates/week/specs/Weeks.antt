-- The calls of a week.
use Rattle.std.specs.Prelude.{◌≡◌, ◌≢◌, ℕ, List, [], ◌∷◌, Ok, Err, Result, IfOk, IfSome}
use Rattle.fault.specs.declared.book.BookFault.{BookFault}
use Rattle.network.specs.declared.step.Step.{Step}
use Rattle.network.specs.Net.{Net}
use Rattle.cost.specs.Numbers.{in_numbers}
use Rattle.cost.specs.Numberings.{fee_numbers, tally_numbers, tariff_numbers}
use Rattle.cost.specs.Sums.{sum_ops}
use Rattle.cost.specs.Fews.{few_ops}
use Rattle.cost.specs.Worsts.{worst_ops}
use Rattle.slip.specs.declared.setting.Setting.{Setting}
use Rattle.book.specs.declared.offer.Offer.{Offer}
use Rattle.book.specs.declared.offer.Offered.{Offered}
use Rattle.book.specs.Numbered.{cost_in_numbers}
use Rattle.account.specs.Events.{Asked, Event, offers, confirms, withdraws, darkens, shuts, tries, slips, looks, reckons}
use Rattle.account.specs.Going.{asked, Is, Then}
use Rattle.week.specs.declared.trip.Trip.{Trip}
use Rattle.week.specs.declared.told.Told.{Told}

-- an offer is refused, or it is settled at once: confirmed or withdrawn
pub data Settled (settle : Offer → Result ℕ (BookFault × Offer) → Event) (q : Asked) (c : ℕ) (r : Result ℕ BookFault) (h : List Event) : Type 0 where
  is_refused : (p : List Step) (f : BookFault) → r ≡ Err f → h ≡ offers q c p (Err f) ∷ [] → Settled settle q c r h
  is_settled : (p : List Step) (k : Offered ℕ) (n : ℕ) → r ≡ Ok n → h ≡ settle k.offer (Ok n) ∷ offers q c p (Ok k) ∷ [] → Settled settle q c r h

-- by FEW, and confirmed
abbrev pub Lights : Net → ℕ → ℕ → ℕ → ℕ → Result ℕ BookFault → List Event → Type 0
Lights w c s t room r = Settled (λ o k. confirms o k) (asked tally_numbers few_ops w s t room) c r

-- by SUM, and withdrawn
abbrev pub Doubts : Net → ℕ → ℕ → ℕ → ℕ → Result ℕ BookFault → List Event → Type 0
Doubts w c s t room r = Settled (λ o k. withdraws o k) (asked fee_numbers sum_ops w s t room) c r

-- the calls of a week with their answers, over tables with room for so many labels and a buffer for settings, before and after
abbrev pub Week : Net → Trip → ℕ → ℕ → List Setting → List Setting → Told → List Event → Type 0
Week w q few sum before after a =
    Then (Lights w q.circuit q.from q.to few a.lit)
    (Then (Is (looks q.circuit a.seen))
    (Then (Is (slips w q.circuit before a.written after))
    (Then (Is (tries (asked fee_numbers sum_ops w q.from q.to sum) q.span (cost_in_numbers fee_numbers a.without)))
    (Then (Is (shuts q.span a.shut))
    (Then (Is (reckons w (in_numbers tariff_numbers worst_ops) q.circuit (cost_in_numbers tariff_numbers a.worst)))
    (Then (Doubts w q.other q.from q.to sum a.given_back)
    (Is (darkens q.circuit a.darkened))))))))

-- whatever came in between, darkening the circuit gives back as many channels as were seen on its path
abbrev pub GivesBackSeen : Trip → Told → Type 0
GivesBackSeen q a = q.other ≢ q.circuit → IfOk a.seen (λ v. IfSome v (λ s. IfOk a.darkened (λ k. k ≡ s.steps)))
