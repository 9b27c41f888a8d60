-- What comes of a request at a book, and of a list of them. w is the network, n are the counts that the book was opened for, and m is its mark.
use Rattle.std.specs.Prelude.{◌≡◌, ℕ, ◌+◌, List, [], ◌∷◌, ◌++◌, map, length, replicate, Some, None, Ok, Err, Option, Result, nat_le}
use Rattle.fault.specs.Judging.{Judgement, judge, first, unless}
use Rattle.fault.specs.Reports.{of_book, of_ticket}
use Rattle.fault.specs.declared.book.BookFault.{BookFault}
use Rattle.fault.specs.declared.book.BookFault.TheVariants.{CircuitState, SlipBuffer}
use Rattle.fault.specs.declared.ticket.TicketFault.{TicketFault}
use Rattle.network.specs.declared.counts.Counts.{Counts}
use Rattle.network.specs.declared.step.Step.{Step}
use Rattle.network.specs.Net.{Net}
use Rattle.network.specs.Tables.{laid}
use Rattle.cost.specs.Laws.{Ops}
use Rattle.cost.specs.Sums.{sum_ops}
use Rattle.cost.specs.Fews.{few_ops}
use Rattle.cost.specs.Worsts.{worst_ops}
use Rattle.records.specs.declared.circuit.Circuit.TheVariants as circuit
use Rattle.records.specs.declared.state.SpanState.TheVariants as span
use Rattle.slip.specs.Slips.{settings}
use Rattle.book.specs.declared.offer.Offer.{Offer}
use Rattle.book.specs.declared.offer.Offered.{Offered}
use Rattle.book.specs.Answering.{scene_in, OfferAnswers, offer_change}
use Rattle.book.specs.Changes.{path_in, Makes}
use Rattle.book.specs.Calls.{Confirms, Withdraws, Darkens, Shuts}
use Rattle.book.specs.Opening.{opened}
use Rattle.book.specs.Refusing.{order_refusal, spend_refusal, of_slip}
use Rattle.book.specs.State.{Tables, lent}
use Rattle.ticket.specs.declared.CostKind.{CostKind}
use Rattle.ticket.specs.declared.CostKind.TheVariants as kind
use Rattle.ticket.specs.declared.Order.{Order}
use Rattle.cabinet.specs.declared.reply.Reply.{Reply}
use Rattle.cabinet.specs.declared.request.Call.{Call}
use Rattle.cabinet.specs.declared.request.Call.TheVariants as call
use Rattle.cabinet.specs.declared.request.Request.{Request}
use Rattle.cabinet.specs.declared.serving.Served.{Served}
use Rattle.cabinet.specs.declared.switch.Switch.{Switch}
use Rattle.cabinet.specs.Replies.{counted, refused, counted_or_refused, done_or_refused, by_sum, by_few, by_worst}
use Rattle.cabinet.specs.Requests.{call_of}
use Rattle.cabinet.specs.Switches.{switch}

-- the offer in hand, if there is one, can be spent
abbrev pub Good : ℕ → Tables → Option Offer → Type 0
Good m x None = Unit {0}
Good m x (Some f) = spend_refusal m x f ≡ None

-- a reply, and what is in hand then
abbrev pub served : Reply → Option Offer → Served
served r hand = record { reply = r; hand = hand }

-- the offer in hand, if there is one, is withdrawn
abbrev pub Returned : Counts → ℕ → Tables → Option Offer → Tables → Type 0
Returned n m x None y = y ≡ x
Returned n m x (Some f) y = (k : ℕ) × Withdraws n m x f (Ok k) y

-- an offer that is made is in hand
abbrev pub offered : {V : Type 0} → (Offered V → Reply) → Result (Offered V) BookFault → Served
offered f (Ok o) = served (f o) (Some o.offer)
offered f (Err e) = served (refused (of_book e).number) None

-- an offer is asked for, as a book makes it (`Offers` of book) where there is room for every search
pub record OffersRoomy {V : Type 0} (o : Ops V) (w : Net) (n : Counts) (m : ℕ) (x : Tables) (q : Order) (r : Result (Offered V) BookFault) (y : Tables) : Type 0 where
  pub answer : OfferAnswers o (scene_in w x) m q.circuit q.from q.to (path_in n y q.circuit) (order_refusal n w.counts x q.circuit q.from q.to) r
  pub change : Makes n (offer_change q.circuit q.from q.to (path_in n y q.circuit) r) x y

-- by a kind of cost, and told in plain numbers
abbrev pub OffersBy : {V : Type 0} → Ops V → (Offered V → Reply) → Net → Counts → ℕ → Tables → Order → Served → Tables → Type 0
OffersBy {V} o f w n m x q d y = (r : Result (Offered V) BookFault) × OffersRoomy o w n m x q r y × (d ≡ offered f r)

abbrev pub OffersByKind : CostKind → Net → Counts → ℕ → Tables → Order → Served → Tables → Type 0
OffersByKind kind.Sum = OffersBy sum_ops by_sum
OffersByKind kind.Few = OffersBy few_ops by_few
OffersByKind kind.Worst = OffersBy worst_ops by_worst

-- what is in hand is withdrawn first
abbrev pub Asks : Net → Counts → ℕ → Tables → Option Offer → Order → Served → Tables → Type 0
Asks w n m x hand q d y = (z : Tables) × Returned n m x hand z × OffersByKind q.kind w n m z q d y

-- the offer in hand is spent by the call P, and its answer counted; 23 where there is none
abbrev pub Spends : (Offer → Result ℕ (BookFault × Offer) → Tables → Type 0) → Tables → Option Offer → Served → Tables → Type 0
Spends P x None d y = (d ≡ served (refused (of_book CircuitState).number) None) × (y ≡ x)
Spends P x (Some f) d y = (k : ℕ) × P f (Ok k) y × (d ≡ served (counted k) None)

-- a circuit is darkened, a span shut; what is in hand stays
abbrev pub DarkensIt : Counts → Tables → ℕ → Reply → Tables → Type 0
DarkensIt n x c r y = (a : Result ℕ BookFault) × Darkens n x c a y × (r ≡ counted_or_refused a)

abbrev pub ShutsIt : Counts → Tables → ℕ → Reply → Tables → Type 0
ShutsIt n x e r y = (a : Result (Unit {0}) BookFault) × Shuts n x e a y × (r ≡ done_or_refused a)

-- the settings along a path, one more than it has steps, have room from a place on
abbrev pub of_place : List Step → ℕ → List Switch → Judgement BookFault
of_place p place switches = judge (nat_le (place + length p + 1) (length switches)) SlipBuffer

-- why circuit c has no slip there: what a book refuses, and then that there is no room
abbrev pub place_refusal : Net → Counts → Tables → ℕ → ℕ → List Switch → Option BookFault
place_refusal w n x c place switches = first (of_slip n w.counts x c ++ of_place (path_in n x c) place switches ∷ [])

-- the switches with the settings along a path from a place on, or as they were where that is refused
abbrev pub switched : Option BookFault → Net → List Step → ℕ → List Switch → List Switch
switched None w p place switches = laid place (map switch (settings w p)) switches
switched (Some f) w p place switches = switches

-- a slip is written from a place on
pub record SlipsAt (w : Net) (n : Counts) (x : Tables) (c place : ℕ) (old : List Switch) (r : Reply) (new : List Switch) : Type 0 where
  pub answer : r ≡ counted_or_refused (unless (place_refusal w n x c place old) (length (path_in n x c) + 1))
  pub switches : new ≡ switched (place_refusal w n x c place old) w (path_in n x c) place old

-- what there is between two requests: the book's tables, the offer in hand, and the caller's switches
pub record Stand : Type 0 where
  pub tables : Tables
  pub hand : Option Offer
  pub switches : List Switch

abbrev pub stand : Tables → Option Offer → List Switch → Stand
stand x hand switches = record { tables = x; hand = hand; switches = switches }

-- what comes of a request: a reply and an offer in hand, tables y, and switches v
abbrev pub Serves : Net → Counts → ℕ → Stand → Result Call TicketFault → Served → Tables → List Switch → Type 0
Serves w n m s (Ok (call.Offer q)) d y v = Asks w n m s.tables s.hand q d y × (v ≡ s.switches)
Serves w n m s (Ok call.Confirm) d y v = Spends (Confirms n m s.tables) s.tables s.hand d y × (v ≡ s.switches)
Serves w n m s (Ok call.Withdraw) d y v = Spends (Withdraws n m s.tables) s.tables s.hand d y × (v ≡ s.switches)
Serves w n m s (Ok (call.Darken c)) d y v = DarkensIt n s.tables c d.reply y × (d.hand ≡ s.hand) × (v ≡ s.switches)
Serves w n m s (Ok (call.Shut e)) d y v = ShutsIt n s.tables e d.reply y × (d.hand ≡ s.hand) × (v ≡ s.switches)
Serves w n m s (Ok (call.Slip c place)) d y v = SlipsAt w n s.tables c place s.switches d.reply v × (d.hand ≡ s.hand) × (y ≡ s.tables)
Serves w n m s (Err f) d y v = (d ≡ served (refused (of_ticket f).number) s.hand) × (y ≡ s.tables) × (v ≡ s.switches)

-- one request after the other, each with its reply
abbrev pub Runs : Net → Counts → ℕ → Stand → List Request → List Reply → Stand → Type 0
Runs w n m s [] rs t = (rs ≡ []) × (t ≡ s)
Runs w n m s (q ∷ qs) rs t =
    (d : Served) × (more : List Reply) × (y : Tables) × (v : List Switch) × (rs ≡ d.reply ∷ more) × Serves w n m s (call_of q) d y v × Runs w n m (stand y d.hand v) qs more t

-- the tables of a book that has just been opened, all free and open
abbrev pub fresh : Counts → Tables
fresh n = opened n (lent (replicate 4096 None) (replicate 128 circuit.Free) (replicate 256 span.Open))

-- a book is opened with mark 1, and these requests are served at it
abbrev pub RunsFresh : Net → List Request → List Switch → List Reply → List Switch → Type 0
RunsFresh w qs old rs new = (y : Tables) × (hand : Option Offer) × Runs w w.counts 1 (stand (fresh w.counts) None old) qs rs (stand y hand new)
