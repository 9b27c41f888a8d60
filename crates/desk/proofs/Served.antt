-- A refusal changes nothing.
use Rattle.std.proofs.Common.{◌≡◌, ℕ, false, List, length, get_or, eqb, None, Some, Ok, Err, Option, Result, refl, ap, ◌∙◌, true≢false}
use Rattle.fault.specs.declared.book.BookFault.{BookFault}
use Rattle.fault.specs.declared.report.Report.{Report}
use Rattle.fault.specs.declared.ticket.TicketFault.{TicketFault}
use Rattle.network.specs.declared.counts.Counts.{Counts}
use Rattle.network.specs.declared.step.Step.{Step}
use Rattle.network.specs.Net.{Net}
use Rattle.cost.specs.Laws.{Ops}
use Rattle.semilightpath.specs.Scenes.{Scene}
use Rattle.book.specs.Answering.{unrefused}
use Rattle.book.specs.Changes.{Change, frees, shuts, changed_by, path_in}
use Rattle.book.specs.Refusing.{darken_refusal, shut_refusal}
use Rattle.book.specs.State.{Tables}
use Rattle.orders.specs.Orders.{Ordered, is_refused, has_none, is_found}
use Rattle.ticket.specs.declared.CostKind.{CostKind}
use Rattle.ticket.specs.declared.CostKind.TheVariants as kind
use Rattle.ticket.specs.declared.Ticket.{Ticket}
use Rattle.ticket.specs.declared.Ticket.TheVariants as ticket
use Rattle.ticket.specs.Tickets.{ticket_of}
use Rattle.desk.specs.declared.reply.Cost.{Cost}
use Rattle.desk.specs.Replies.{cost_text, lit_text, dark_text, shut_text, refusal_text, told}
use Rattle.desk.specs.Serving.{ByKind, SaysNo, Called, Served, Answered, RefusalsChangeNothing}

-- a text that begins with another letter is no refusal
no_refusal : (r : Report) (said : List ℕ) → eqb (get_or said 0 0) 78 ≡ false → refusal_text r ≡ said → ⊥
no_refusal r said other e = true≢false (ap (λ (cs : List ℕ). eqb (get_or cs 0 0) 78) e ∙ other)

-- of an order where only a refusal changes nothing for certain, the refusal
module _ (r : Report) (x y : Tables) where
  ordered_same : {V : Type 0} (o : Ops V) (g : Scene) (s t : ℕ) (due : Option BookFault) (P : List Step → V → Type 0) → ((p : List Step) (v : V) → P p v → y ≡ x) → Ordered o g s t due P (SaysNo (refusal_text r) x y) → y ≡ x
  ordered_same o g s t due P same (is_refused f d a) = a.1
  ordered_same o g s t due P same (has_none d none a) = a.1
  ordered_same o g s t due P same (is_found d p v best a) = same p v a

  kind_same : (k : CostKind) (g : Scene) (s t : ℕ) (due : Option BookFault) (P : List Step → Cost → Type 0) → ((p : List Step) (v : Cost) → P p v → y ≡ x) → ByKind k g s t due P (SaysNo (refusal_text r) x y) → y ≡ x
  kind_same kind.Sum g s t due P same = ordered_same _ _ _ _ _ _ (λ p v. same p _)
  kind_same kind.Few g s t due P same = ordered_same _ _ _ _ _ _ (λ p v. same p _)
  kind_same kind.Worst g s t due P same = ordered_same _ _ _ _ _ _ (λ p v. same p _)

  -- what is not refused is not said so
  told_same : (n : Counts) (due : Option BookFault) (h : Change) (said : List ℕ) → eqb (get_or said 0 0) 78 ≡ false → refusal_text r ≡ told due said → y ≡ changed_by n (unrefused due h) x → y ≡ x
  told_same n None h said other e c = absurd (no_refusal r said other e)
  told_same n (Some f) h said other e c = c

  called_same : (w : Net) (n : Counts) (t : Ticket) → Called w n x t (refusal_text r) y → y ≡ x
  called_same w n (ticket.Light q) a = kind_same q.kind _ _ _ _ _ (λ p v b. absurd (no_refusal r (lit_text q.circuit (cost_text v)) refl b.0)) a
  called_same w n (ticket.Quote q) a = kind_same q.kind _ _ _ _ _ (λ p v b. b.1) a
  called_same w n (ticket.Trial q) a = kind_same q.kind _ _ _ _ _ (λ p v b. b.1) a
  called_same w n (ticket.Dark c) a = told_same n (darken_refusal x c) (frees c) (dark_text c (length (path_in n x c))) refl a.0 a.1
  called_same w n (ticket.Shut e) a = told_same n (shut_refusal n e) (shuts e) (shut_text e) refl a.0 a.1
  called_same w n (ticket.Slip c) a = a.1

  served_same : (w : Net) (n : Counts) (c : Result Ticket TicketFault) → Served w n x c (refusal_text r) y → y ≡ x
  served_same w n (Ok t) a = called_same w n t a
  served_same w n (Err f) a = a.1

pub refusals_change_nothing : RefusalsChangeNothing
unfolding Answered
refusals_change_nothing w n x line r y a = served_same r x y w n (ticket_of line) a
