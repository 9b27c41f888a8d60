-- What a call's contract ensures, as one call of a run.
use Rattle.std.proofs.Common.{◌≡◌, ℕ, List, [], ◌∷◌, ◌++◌, Option, Result, refl, subst}
use Rattle.fault.specs.declared.book.BookFault.{BookFault}
use Rattle.network.specs.declared.counts.Counts.{Counts}
use Rattle.network.specs.Net.{Net}
use Rattle.cost.specs.Laws.{Ops}
use Rattle.cost.specs.Numbers.{Numbering, in_numbers}
use Rattle.slip.specs.declared.setting.Setting.{Setting}
use Rattle.book.specs.declared.Book.{Book}
use Rattle.book.specs.declared.offer.Offer.{Offer}
use Rattle.book.specs.declared.offer.Offered.{Offered}
use Rattle.book.specs.declared.status.Status.{Status}
use Rattle.book.specs.State.{tables, Kept}
use Rattle.book.specs.Changes.{path_in}
use Rattle.book.specs.Numbered.{offer_in_numbers, cost_in_numbers}
use Rattle.book.specs.Calls.{Offers, Confirms, Withdraws, Darkens, Shuts, Tries, Looks, Slips, Reckons}
use Rattle.account.specs.Events.{Event, offers, confirms, withdraws, darkens, shuts, tries, slips, looks, reckons}
use Rattle.account.specs.Law.{LeadsTo, Run, no_call, one_more, Agrees, Law}
use Rattle.account.specs.Going.{asked, Is, Then, Goes, Accounted}

-- a book that a call leaves alone
pub kept_same : (b : Book) → Kept b b
kept_same b = record { counts = refl; mark = refl; lent = record { channels = refl; circuits = refl; spans = refl } }

-- the calls that take a book to change it
module _ (b b' : Book) (kept : Kept b b') where
  pub offer_leads : {V : Type 0} (c : Numbering V) (o : Ops V) (w : Net) (circuit s t room : ℕ) (r : Result (Offered V) BookFault)
      → Offers (in_numbers c o) w b.extent.counts b.mark (tables b) circuit s t room (offer_in_numbers c r) (tables b')
      → LeadsTo b (offers (asked c o w s t room) circuit (path_in b.extent.counts (tables b') circuit) (offer_in_numbers c r)) b'
  offer_leads c o w circuit s t room r call = record { kept = kept; call = (refl, call) }

  pub confirm_leads : (o : Offer) (r : Result ℕ (BookFault × Offer)) → Confirms b.extent.counts b.mark (tables b) o r (tables b') → LeadsTo b (confirms o r) b'
  confirm_leads o r call = record { kept = kept; call = call }

  pub withdraw_leads : (o : Offer) (r : Result ℕ (BookFault × Offer)) → Withdraws b.extent.counts b.mark (tables b) o r (tables b') → LeadsTo b (withdraws o r) b'
  withdraw_leads o r call = record { kept = kept; call = call }

  pub darken_leads : (c : ℕ) (r : Result ℕ BookFault) → Darkens b.extent.counts (tables b) c r (tables b') → LeadsTo b (darkens c r) b'
  darken_leads c r call = record { kept = kept; call = call }

  pub shut_leads : (e : ℕ) (r : Result (Unit {0}) BookFault) → Shuts b.extent.counts (tables b) e r (tables b') → LeadsTo b (shuts e r) b'
  shut_leads e r call = record { kept = kept; call = call }

  pub trial_leads : {V : Type 0} (c : Numbering V) (o : Ops V) (w : Net) (s t e room : ℕ) (r : Result V BookFault)
      → tables b' ≡ tables b
      → Tries (in_numbers c o) w b.extent.counts (tables b) s t e room (cost_in_numbers c r)
      → LeadsTo b (tries (asked c o w s t room) e (cost_in_numbers c r)) b'
  trial_leads c o w s t e room r same call = record { kept = kept; call = (same, call) }

-- the calls that read it alone
module _ (b : Book) where
  pub look_leads : (c : ℕ) (r : Result (Option Status) BookFault) → Looks b.extent.counts (tables b) c r → LeadsTo b (looks c r) b
  look_leads c r call = record { kept = kept_same b; call = (refl, call) }

  pub slip_leads : (w : Net) (c : ℕ) (buffer after : List Setting) (r : Result ℕ BookFault) → Slips w b.extent.counts (tables b) c buffer r after → LeadsTo b (slips w c buffer r after) b
  slip_leads w c buffer after r call = record { kept = kept_same b; call = (refl, call) }

  pub reckon_leads : {V : Type 0} (c : Numbering V) (o : Ops V) (w : Net) (circuit : ℕ) (r : Result V BookFault)
      → Reckons (in_numbers c o) w b.extent.counts (tables b) circuit (cost_in_numbers c r)
      → LeadsTo b (reckons w (in_numbers c o) circuit (cost_in_numbers c r)) b
  reckon_leads c o w circuit r call = record { kept = kept_same b; call = (refl, call) }

-- two runs, one after the other
pub run_then : (a b c : Book) (h k : List Event) → Run a h b → Run b k c → Run a (k ++ h) c
run_then a b c h k first no_call = first
run_then a b c h (e ∷ k) first (one_more {b = b'} rest leads) = one_more (run_then a b b' h k first rest) leads

-- one call
pub goes_one : (a b : Book) (e : Event) → LeadsTo a e b → Goes (Is e) a b
goes_one a b e leads = record { calls = e ∷ []; run = one_more no_call leads; told = refl }

-- calls, and then calls
pub goes_then : (P Q : List Event → Type 0) (a b c : Book) → Goes P a b → Goes Q b c → Goes (Then P Q) a c
goes_then P Q a b c p q = record {
  calls = q.calls ++ p.calls;
  run = run_then a b c p.calls q.calls p.run q.run;
  told = record { first = p.calls; rest = q.calls; begins = p.told; goes_on = q.told; whole = refl };
}

-- the same calls, told in other words
pub goes_as : (P Q : List Event → Type 0) (a b : Book) → ((h : List Event) → P h → Q h) → Goes P a b → Goes Q a b
goes_as P Q a b so p = record { calls = p.calls; run = p.run; told = so p.calls p.told }

-- a book under the law agrees with an account of them
pub law_goes : (P : List Event → Type 0) (n : Counts) (mark : ℕ) (opened b : Book) → Law opened → opened.extent.counts ≡ n → opened.mark ≡ mark → Goes P opened b → Accounted P n mark (tables b)
law_goes P n mark opened b law counts same p =
    record { calls = p.calls; told = p.told; agrees = subst (λ k. Agrees k mark p.calls (tables b)) counts (subst (λ m. Agrees opened.extent.counts m p.calls (tables b)) same (law p.calls b p.run)) }
