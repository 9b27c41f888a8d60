-- A desk has room for every slip.
use Rattle.std.proofs.Common.{nat_le, ◌≡◌, ℕ, ◌+◌, ◌≤◌, length, None, Some, Err, Option, Result, refl, sym, ap, ◌∙◌, subst, arith}
use Rattle.std.proofs.lemmas.Bool.{le-leb}
use Rattle.fault.specs.Judging.{first, unless}
use Rattle.fault.specs.Reports.{of_book}
use Rattle.fault.specs.declared.book.BookFault.{BookFault}
use Rattle.fault.specs.declared.book.BookFault.TheVariants.{SlipBuffer}
use Rattle.fault.proofs.Judged.{last_sound}
use Rattle.network.specs.declared.counts.Counts.{Counts}
use Rattle.network.specs.Net.{Net}
use Rattle.network.specs.Tariffs.{arrival_entries}
use Rattle.records.specs.declared.circuit.Route.{Route}
use Rattle.records.specs.Chains.{along, route_of}
use Rattle.slip.specs.Slips.{settings}
use Rattle.book.specs.declared.Book.{Book}
use Rattle.book.specs.Changes.{path_in}
use Rattle.book.specs.Refusing.{of_slip, slip_refusal}
use Rattle.book.specs.State.{Tables, tables}
use Rattle.book.proofs.Ordered.{fault_of}
use Rattle.ticket.specs.declared.Ticket.{Ticket}
use Rattle.ticket.specs.declared.Ticket.TheVariants as ticket
use Rattle.desk.specs.Replies.{slip_text, refusal_text, told}
use Rattle.desk.specs.Serving.{Called}
use Rattle.desk.proofs.Costed.{arrivals_few}

path_few : (b : Book) (c : ℕ) → length (path_in b.extent.counts (tables b) c) ≤ 1024
path_few b c = go (route_of b.lent.circuits.now c) refl
  where
    few : arrival_entries b.extent.counts ≤ 1024
    few = arrivals_few b.extent.counts b.extent.counted

    go : (r : Option Route) → route_of b.lent.circuits.now c ≡ r → length (path_in b.extent.counts (tables b) c) ≤ 1024
    go None e = let none = ap (λ i. length (along b.extent.counts b.lent.channels.now i)) e in omega (arith, none)
    go (Some r) e =
        let whole = b.whole c r e in
        let long = ap (λ i. length (along b.extent.counts b.lent.channels.now i)) e ∙ whole.all in
        omega (arith, long, whole.short, few)

roomy : (m n : Counts) (x : Tables) (c : ℕ) → length (path_in m x c) ≤ 1024 → slip_refusal m n x c 1025 ≡ first (of_slip m n x c)
roomy m n x c h = last_sound (of_slip m n x c) (nat_le (length (path_in m x c) + 1) 1025) SlipBuffer (le-leb (length (path_in m x c) + 1) 1025 (omega arith))

-- a slip that is refused
pub slip_called : (b : Book) (w : Net) (c : ℕ) (t : Ticket) (room : ℕ) (k : ℕ) (r : Result ℕ BookFault) (f f' : BookFault) → t ≡ ticket.Slip c → room ≡ 1025 → r ≡ unless (slip_refusal b.extent.counts w.counts (tables b) c room) k → r ≡ Err f → f' ≡ f
    → Called w b.extent.counts (tables b) t (refusal_text (of_book f')) (tables b)
slip_called b w c t room k r f f' is long answer e same =
    let due : first (of_slip b.extent.counts w.counts (tables b) c) ≡ Some f = sym (ap (slip_refusal b.extent.counts w.counts (tables b) c) long ∙ roomy b.extent.counts w.counts (tables b) c (path_few b c)) ∙ fault_of _ k f (sym answer ∙ e) in
    subst (λ i. Called w b.extent.counts (tables b) i (refusal_text (of_book f')) (tables b)) (sym is)
    (ap (λ i. refusal_text (of_book i)) same ∙ sym (ap (λ i. told i (slip_text c (settings w (path_in b.extent.counts (tables b) c)))) due), refl)
