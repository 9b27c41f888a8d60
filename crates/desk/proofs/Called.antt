-- What is said of a ticket's call.
use Rattle.std.proofs.Common.{◌≡◌, ℕ, List, Ok, Err, Option, Result, refl, sym, ap, ◌∙◌, subst}
use Rattle.fault.specs.Reports.{of_book}
use Rattle.fault.specs.declared.book.BookFault.{BookFault}
use Rattle.network.specs.declared.counts.Counts.{Counts}
use Rattle.network.specs.declared.step.Step.{Step}
use Rattle.network.specs.Net.{Net}
use Rattle.semilightpath.specs.Scenes.{Scene}
use Rattle.book.specs.State.{Tables}
use Rattle.orders.proofs.Mapped.{ordered_map}
use Rattle.ticket.specs.declared.CostKind.{CostKind}
use Rattle.ticket.specs.declared.CostKind.TheVariants as kind
use Rattle.ticket.specs.declared.Order.{Order}
use Rattle.ticket.specs.declared.Trial.{Trial}
use Rattle.ticket.specs.declared.Ticket.{Ticket}
use Rattle.ticket.specs.declared.Ticket.TheVariants as ticket
use Rattle.desk.specs.declared.reply.Cost.{Cost}
use Rattle.desk.specs.Replies.{cost_text, lit_text, price_text, refusal_text, book_said}
use Rattle.desk.specs.declared.reply.Reply.{Reply}
use Rattle.desk.specs.Serving.{ByKind, Orders, Trials, Only, SaysNo, Called}
use Rattle.desk.proofs.Costed.{LitAt, Unlit}

-- what comes of an order, told in other words
kind_map : (k : CostKind) (g : Scene) (s t : ℕ) (due : Option BookFault) (P P' : List Step → Cost → Type 0) (R R' : BookFault → Type 0) → ((p : List Step) (v : Cost) → P p v → P' p v) → ((f : BookFault) → R f → R' f) → ByKind k g s t due P R → ByKind k g s t due P' R'
kind_map kind.Sum g s t due P P' R R' found refused = ordered_map _ _ _ _ _ _ _ _ _ _ refl (λ p v. found p _) refused
kind_map kind.Few g s t due P P' R R' found refused = ordered_map _ _ _ _ _ _ _ _ _ _ refl (λ p v. found p _) refused
kind_map kind.Worst g s t due P P' R R' found refused = ordered_map _ _ _ _ _ _ _ _ _ _ refl (λ p v. found p _) refused

-- a cost, told so, or the refusal
abbrev pub said_by : (List ℕ → List ℕ) → Result Cost BookFault → List ℕ
said_by tell (Ok v) = tell (cost_text v)
said_by tell (Err f) = refusal_text (of_book f)

module _ (w : Net) (n : Counts) (x y : Tables) (t : Ticket) (b : Result Cost BookFault) (said : List ℕ) where
  pub lit_called : (q : Order) → t ≡ ticket.Light q → said ≡ said_by (lit_text q.circuit) b → Orders w n x q (LitAt n x q b y) (Unlit x b y) → Called w n x t said y
  lit_called q is e a =
      subst (λ i. Called w n x i said y) (sym is)
      (kind_map q.kind _ _ _ _ _ _ _ _ (λ p v r. (e ∙ ap (said_by (lit_text q.circuit)) r.0, r.1)) (λ f r. (e ∙ ap (said_by (lit_text q.circuit)) r.0, r.1)) a)

  -- a price that is told, where nothing changes
  module _ (e : said ≡ said_by price_text b) (same : y ≡ x) where
    price_told : (k : CostKind) (g : Scene) (s s' : ℕ) (due : Option BookFault) → ByKind k g s s' due (λ p v. b ≡ Ok v) (λ f. b ≡ Err f) → ByKind k g s s' due (λ p v. Only (price_text (cost_text v)) said x y) (SaysNo said x y)
    price_told k g s s' due = kind_map k g s s' due _ _ _ _ (λ p v r. (e ∙ ap (said_by price_text) r, same)) (λ f r. (e ∙ ap (said_by price_text) r, same))

    pub priced_called : (q : Order) → t ≡ ticket.Quote q → Orders w n x q (λ p v. b ≡ Ok v) (λ f. b ≡ Err f) → Called w n x t said y
    priced_called q is a = subst (λ i. Called w n x i said y) (sym is) (price_told q.kind _ _ _ _ a)

    pub tried_called : (q : Trial) → t ≡ ticket.Trial q → Trials w n x q (λ p v. b ≡ Ok v) (λ f. b ≡ Err f) → Called w n x t said y
    tried_called q is a = subst (λ i. Called w n x i said y) (sym is) (price_told q.kind _ _ _ _ a)

-- what is said where the order is refused, and where a cost is found
pub refused_said : (tell : List ℕ → List ℕ) (b : Result Cost BookFault) (r : Result Reply BookFault) (f f' : BookFault) → r ≡ Err f' → f' ≡ f → b ≡ Err f → book_said r ≡ said_by tell b
refused_said tell b r f f' e same is = ap book_said e ∙ ap (λ i. refusal_text (of_book i)) same ∙ sym (ap (said_by tell) is)

pub found_said : (tell : List ℕ → List ℕ) (b : Result Cost BookFault) (v : Cost) → b ≡ Ok v → tell (cost_text v) ≡ said_by tell b
found_said tell b v is = sym (ap (said_by tell) is)

-- a refusal of the book is said
pub told_so : (w : Net) (n : Counts) (x y : Tables) (t : Ticket) (r : Result Reply BookFault) (f : BookFault) → r ≡ Err f → Called w n x t (refusal_text (of_book f)) y → Called w n x t (book_said r) y
told_so w n x y t r f e a = subst (λ i. Called w n x t i y) (sym (ap book_said e)) a
