-- What a line asks for, what is said to it, and what it changes.
use Rattle.std.specs.Prelude.{◌≡◌, ℕ, Bool, true, false, List, length, Ok, Err, Option, Result}
use Rattle.fault.specs.Judging.{first}
use Rattle.fault.specs.Reports.{of_ticket, of_book}
use Rattle.fault.specs.declared.book.BookFault.{BookFault}
use Rattle.fault.specs.declared.report.Report.{Report}
use Rattle.fault.specs.declared.ticket.TicketFault.{TicketFault}
use Rattle.network.specs.declared.counts.Counts.{Counts}
use Rattle.network.specs.declared.step.Step.{Step}
use Rattle.network.specs.Net.{Net}
use Rattle.cost.specs.Laws.{Ops}
use Rattle.cost.specs.Sums.{sum_ops}
use Rattle.cost.specs.Fews.{few_ops}
use Rattle.cost.specs.Worsts.{worst_ops}
use Rattle.semilightpath.specs.Scenes.{Scene}
use Rattle.slip.specs.Slips.{settings}
use Rattle.book.specs.Answering.{scene_in, scene_without, unrefused}
use Rattle.book.specs.Changes.{frees, shuts, changed_by, path_in}
use Rattle.book.specs.Refusing.{order_refusal, of_trial, of_slip, darken_refusal, shut_refusal}
use Rattle.book.specs.State.{Tables}
use Rattle.orders.specs.Orders.{Ordered, lit_changes}
use Rattle.ticket.specs.declared.CostKind.TheVariants as kind
use Rattle.ticket.specs.declared.CostKind.{CostKind}
use Rattle.ticket.specs.declared.Order.{Order}
use Rattle.ticket.specs.declared.Trial.{Trial}
use Rattle.ticket.specs.declared.Ticket.{Ticket}
use Rattle.ticket.specs.declared.Ticket.TheVariants as ticket
use Rattle.ticket.specs.Tickets.{ticket_of}
use Rattle.desk.specs.declared.reply.Cost.{Cost}
use Rattle.desk.specs.declared.reply.Cost.TheVariants as cost
use Rattle.desk.specs.Replies.{cost_text, lit_text, price_text, dark_text, shut_text, slip_text, refusal_text, told}

-- what comes of an order by a kind of cost: P tells what is to hold of the path, and of its cost, told as one of that kind
abbrev pub OrderedBy : {V : Type 0} → Ops V → (V → Cost) → Scene → ℕ → ℕ → Option BookFault → (List Step → Cost → Type 0) → (BookFault → Type 0) → Type 0
OrderedBy o of_kind g s t due P Refused = Ordered o g s t due (λ p v. P p (of_kind v)) Refused

-- the same by the kind of cost that is told
abbrev pub ByKind : CostKind → Scene → ℕ → ℕ → Option BookFault → (List Step → Cost → Type 0) → (BookFault → Type 0) → Type 0
ByKind kind.Sum = OrderedBy sum_ops cost.Sum
ByKind kind.Few = OrderedBy few_ops cost.Few
ByKind kind.Worst = OrderedBy worst_ops cost.Worst

-- of an order for a circuit, over what can be used
abbrev pub Orders : Net → Counts → Tables → Order → (List Step → Cost → Type 0) → (BookFault → Type 0) → Type 0
Orders w n x q = ByKind q.kind (scene_in w x) q.from q.to (order_refusal n w.counts x q.circuit q.from q.to)

-- of a trial, over what could be used if its span were shut
abbrev pub Trials : Net → Counts → Tables → Trial → (List Step → Cost → Type 0) → (BookFault → Type 0) → Type 0
Trials w n x q = ByKind q.kind (scene_without w x q.span) q.from q.to (first (of_trial n w.counts q.from q.to q.span))

-- this is said, and nothing changes
abbrev pub Only : List ℕ → List ℕ → Tables → Tables → Type 0
Only text said x y = (said ≡ text) × (y ≡ x)

-- a refusal of the book is said, and nothing changes
abbrev pub SaysNo : List ℕ → Tables → Tables → BookFault → Type 0
SaysNo said x y f = Only (refusal_text (of_book f)) said x y

-- what is said of a ticket's call, and what stands then, where tables x stood before
abbrev pub Called : Net → Counts → Tables → Ticket → List ℕ → Tables → Type 0
Called w n x (ticket.Light q) said y =
    Orders w n x q (λ p v. (said ≡ lit_text q.circuit (cost_text v)) × (y ≡ changed_by n (lit_changes q.circuit q.from q.to p) x)) (SaysNo said x y)
Called w n x (ticket.Quote q) said y = Orders w n x q (λ p v. Only (price_text (cost_text v)) said x y) (SaysNo said x y)
Called w n x (ticket.Trial q) said y = Trials w n x q (λ p v. Only (price_text (cost_text v)) said x y) (SaysNo said x y)
Called w n x (ticket.Dark c) said y =
    (said ≡ told (darken_refusal x c) (dark_text c (length (path_in n x c)))) × (y ≡ changed_by n (unrefused (darken_refusal x c) (frees c)) x)
Called w n x (ticket.Shut e) said y =
    (said ≡ told (shut_refusal n e) (shut_text e)) × (y ≡ changed_by n (unrefused (shut_refusal n e) (shuts e)) x)
Called w n x (ticket.Slip c) said y = Only (told (first (of_slip n w.counts x c)) (slip_text c (settings w (path_in n x c)))) said x y

-- a line that is no ticket is refused, and makes no call
abbrev pub Served : Net → Counts → Tables → Result Ticket TicketFault → List ℕ → Tables → Type 0
Served w n x (Ok c) said y = Called w n x c said y
Served w n x (Err f) said y = Only (refusal_text (of_ticket f)) said x y

-- whether a ticket asks for a path to be found
abbrev pub asks_for_path : Ticket → Bool
asks_for_path (ticket.Light q) = true
asks_for_path (ticket.Quote q) = true
asks_for_path (ticket.Trial q) = true
asks_for_path (ticket.Dark c) = false
asks_for_path (ticket.Shut e) = false
asks_for_path (ticket.Slip c) = false

-- whether it is a ticket that asks for a slip
abbrev pub asks_for_slip : Result Ticket TicketFault → Bool
asks_for_slip (Ok (ticket.Light q)) = false
asks_for_slip (Ok (ticket.Quote q)) = false
asks_for_slip (Ok (ticket.Trial q)) = false
asks_for_slip (Ok (ticket.Dark c)) = false
asks_for_slip (Ok (ticket.Shut e)) = false
asks_for_slip (Ok (ticket.Slip c)) = true
asks_for_slip (Err f) = false

-- a slip is given room for as many settings as any can have; nothing else needs any
abbrev pub RoomFor : Result Ticket TicketFault → ℕ → Type 0
RoomFor t room = asks_for_slip t ≡ true → room ≡ 1025

-- with tables x before, this is said to a line, and tables y stand then; w is the network, and n the counts that the book was opened for
unfoldable pub Answered : Net → Counts → Tables → List ℕ → List ℕ → Tables → Type 0
Answered w n x line said y = Served w n x (ticket_of line) said y

-- a refusal changes nothing
abbrev pub RefusalsChangeNothing : Type 0
RefusalsChangeNothing = (w : Net) (n : Counts) (x : Tables) (line : List ℕ) (r : Report) (y : Tables) → Answered w n x line (refusal_text r) y → y ≡ x
