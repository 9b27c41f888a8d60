-- A chunk that is taken byte by byte.
use Rattle.std.proofs.Common.{◌≡◌, ℕ, ◌+◌, ◌<◌, true, false, eqb, List, [], ◌∷◌, ◌++◌, length, get_or, take, sym, refl, ap, subst, subst₂, ◌∙◌, Ok, Err, Result, OnOk, OnErr, MatchBool}
use Rattle.std.proofs.lemmas.List.{append_assoc, take_more}
use Rattle.std.proofs.lemmas.Result.{on_err_weaker}
use Rattle.fault.specs.declared.ticket.TicketFault.{TicketFault}
use Rattle.network.specs.declared.counts.Counts.{Counts}
use Rattle.network.specs.Net.{Net}
use Rattle.book.specs.declared.Book.{Book}
use Rattle.book.specs.State.{Tables, Kept}
use Rattle.ticket.specs.declared.Ticket.{Ticket}
use Rattle.ticket.specs.Tickets.{ticket_of}
use Rattle.desk.specs.Runs.{Rests}
use Rattle.desk.specs.Serving.{Served, Answered}
use Rattle.desk.specs.Feeding.{Desk, desk, Says, Turns, Keeps, Takes, Feeds, Ends, Appends, Leaves, InPart}
use Rattle.desk.proofs.Runs.{runs_last}

pub kept_then : (a b c : Book) → Kept a b → Kept b c → Kept a c
kept_then a b c p q = record {
  counts = q.counts ∙ p.counts;
  mark = q.mark ∙ p.mark;
  lent = record {
    channels = q.lent.channels ∙ p.lent.channels;
    circuits = q.lent.circuits ∙ p.lent.circuits;
    spans = q.lent.spans ∙ p.lent.spans;
  };
}

pub on_err : {T E P : Type 0} (r : Result T E) → P → OnErr r P
on_err (Ok v) p = tt
on_err (Err e) p = p

-- what is said to the ticket that a line is, or to a line that is none, is said to the line
answered : (w : Net) (n : Counts) (t t' : Tables) (ticket : Result Ticket TicketFault) (line line' said : List ℕ) → ticket ≡ ticket_of line → line ≡ line' → Served w n t ticket said t' → Answered w n t line' said t'
unfolding Answered
answered w n t t' ticket line line' said is e a = subst (λ (c : Result Ticket TicketFault). Served w n t c said t') (is ∙ ap ticket_of e) a

-- a line was answered, the reply is written, and another line begins
pub turned : {E : Type 0} (w : Net) (n : Counts) (s s' : Desk) (out out' line : List ℕ) (ticket : Result Ticket TicketFault) (r : Result (Unit {0}) E) → r ≡ Ok tt → Says r w n s.tables ticket out out' s'.tables → ticket ≡ ticket_of line → line ≡ s.line → s'.line ≡ [] → Appends (Turns w n s) out out' s'
turned w n s s' out out' line ticket r ok a is e l = (
  a.said ++ 10 ∷ [],
  record { replied = record { said = a.said; answered = answered w n s.tables s'.tables ticket line s.line a.said is e a.served; written = refl }; emptied = l },
  subst (λ i. OnOk i (out' ≡ out ++ (a.said ++ 10 ∷ []))) ok a.written,
)

-- the tables where a reply was not written, or in part
module _ {T E : Type 0} (r : Result T E) (w : Net) (n : Counts) (s : Desk) (t : Tables) where
  pub turned_then : {F : Type 0} (line out out' : List ℕ) (ticket : Result Ticket TicketFault) (r' : Result (Unit {0}) F) → Says r' w n s.tables ticket out out' t → ticket ≡ ticket_of line → line ≡ s.line → OnErr r (Leaves (Turns w n s) t)
  turned_then line out out' ticket r' a is e =
      on_err r
      (a.said ++ 10 ∷ [], [], record { replied = record { said = a.said; answered = answered w n s.tables t ticket line s.line a.said is e a.served; written = refl }; emptied = refl })

  pub taken_then : (b : ℕ) → eqb b 10 ≡ true → OnErr r (Leaves (Turns w n s) t) → OnErr r (Leaves (Takes w n s b) t)
  taken_then b ten =
      on_err_weaker r
      (λ l. (l.0, l.1, subst (λ v. MatchBool v (Turns w n s l.0 (desk t l.1)) (Keeps s b l.0 (desk t l.1))) (sym ten) l.2))

  pub ended_then : eqb (length s.line) 0 ≡ false → OnErr r (Leaves (Turns w n s) t) → OnErr r (Leaves (Ends w n s) t)
  ended_then begun =
      on_err_weaker r
      (λ l. (l.0, l.1, subst (λ v. MatchBool v (Rests s l.0 (desk t l.1)) (Turns w n s l.0 (desk t l.1))) (sym begun) l.2))

-- one more byte of a chunk, of which the first i were taken
module _ (w : Net) (n m : Counts) (s₀ s : Desk) (out₀ out bs : List ℕ) (i b : ℕ) (so_far : Appends (Feeds w n s₀ (take i bs)) out₀ out s) (same : m ≡ n) (h : i < length bs) (is : b ≡ get_or bs i 0) where
  one_more : (said : List ℕ) (s' : Desk) → Takes w m s b said s' → Feeds w n s₀ (take (i + 1) bs) (so_far.0 ++ said) s'
  one_more said s' t =
      subst
      (λ (xs : List ℕ). Feeds w n s₀ xs (so_far.0 ++ said) s')
      (sym (take_more bs i 0 h))
      (runs_last (Takes w n) s₀ (take i bs) (get_or bs i 0) so_far.0 said s s' so_far.1
      (subst₂ (λ (k : Counts) (c : ℕ). Takes w k s c said s') same is t))

  pub part_way : {T E : Type 0} (r : Result T E) (t : Tables) → Leaves (Takes w m s b) t → OnErr r (InPart w n s₀ bs t)
  part_way r t l = on_err r (i + 1, (so_far.0 ++ l.0, l.1, one_more l.0 (desk t l.1) l.2))

  pub going_on : (out' : List ℕ) (s' : Desk) → Appends (Takes w m s b) out out' s' → Appends (Feeds w n s₀ (take (i + 1) bs)) out₀ out' s'
  going_on out' s' a = (
    so_far.0 ++ a.0,
    one_more a.0 s' a.1,
    a.2 ∙ ap (λ (o : List ℕ). o ++ a.0) so_far.2 ∙ append_assoc out₀ so_far.0 a.0,
  )
