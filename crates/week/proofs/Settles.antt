-- An offer that is settled at once, as calls of a run.
use Rattle.std.proofs.Common.{◌≡◌, ℕ, [], ◌∷◌, Ok, Err, Result, refl, ap, ap₂}
use Rattle.fault.specs.declared.book.BookFault.{BookFault}
use Rattle.network.specs.Net.{Net}
use Rattle.cost.specs.Laws.{Ops}
use Rattle.cost.specs.Numbers.{Numbering, in_numbers}
use Rattle.book.specs.declared.Book.{Book}
use Rattle.book.specs.declared.offer.Offer.{Offer}
use Rattle.book.specs.declared.offer.Offered.{Offered}
use Rattle.book.specs.State.{tables, Kept}
use Rattle.book.specs.Changes.{path_in}
use Rattle.book.specs.Numbered.{offer_in_numbers}
use Rattle.book.specs.Calls.{Offers}
use Rattle.account.specs.Events.{Event, offers}
use Rattle.account.specs.Law.{LeadsTo, no_call, one_more}
use Rattle.account.specs.Going.{asked, Goes}
use Rattle.account.proofs.Calls.{offer_leads}
use Rattle.week.specs.Weeks.{Settled, is_refused, is_settled}

module _ {V : Type 0} (settle : Offer → Result ℕ (BookFault × Offer) → Event) (n : Numbering V) (o : Ops V) (w : Net) (c s t room : ℕ) (a b : Book) (r : Result (Offered V) BookFault) (kept : Kept a b) (call : Offers (in_numbers n o) w a.extent.counts a.mark (tables a) c s t room (offer_in_numbers n r) (tables b)) where
  pub refused_goes : (d : Result ℕ BookFault) (f : BookFault) → r ≡ Err f → d ≡ Err f → Goes (Settled settle (asked n o w s t room) c d) a b
  refused_goes d f e same = record {
    calls = offers (asked n o w s t room) c (path_in a.extent.counts (tables b) c) (offer_in_numbers n r) ∷ [];
    run = one_more no_call (offer_leads a b kept n o w c s t room r call);
    told = is_refused (path_in a.extent.counts (tables b) c) f same (ap (λ k. offers (asked n o w s t room) c (path_in a.extent.counts (tables b) c) (offer_in_numbers n k) ∷ []) e);
  }

  pub settled_goes : (b' : Book) (k : Offered V) (u : Result ℕ (BookFault × Offer)) (i : ℕ) → r ≡ Ok k → u ≡ Ok i → LeadsTo b (settle k.offer u) b' → Goes (Settled settle (asked n o w s t room) c (Ok i)) a b'
  settled_goes b' k u i e same leads = record {
    calls = settle k.offer u ∷ offers (asked n o w s t room) c (path_in a.extent.counts (tables b) c) (offer_in_numbers n r) ∷ [];
    run = one_more (one_more no_call (offer_leads a b kept n o w c s t room r call)) leads;
    told = is_settled (path_in a.extent.counts (tables b) c) (record { cost = n.number k.cost; steps = k.steps; offer = k.offer }) i refl
        (ap₂ (λ v l. settle k.offer v ∷ offers (asked n o w s t room) c (path_in a.extent.counts (tables b) c) (offer_in_numbers n l) ∷ []) same e);
  }
