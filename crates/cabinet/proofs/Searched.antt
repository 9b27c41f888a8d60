-- Labels for the largest network have room for every search.
use Rattle.std.proofs.Common.{nat_le, ◌≡◌, ℕ, ◌≤◌, sym, subst, Result}
use Rattle.std.proofs.lemmas.Bool.{le-leb}
use Rattle.std.proofs.lemmas.Nat.{mul-le}
use Rattle.fault.specs.declared.book.BookFault.{BookFault}
use Rattle.fault.specs.declared.book.BookFault.TheVariants.{WorkTable}
use Rattle.fault.proofs.Judged.{last_sound}
use Rattle.network.specs.declared.counts.Counts.{Counts}
use Rattle.network.specs.Extents.{Counted}
use Rattle.network.specs.Net.{Net}
use Rattle.network.specs.Tariffs.{arrival_entries}
use Rattle.cost.specs.Laws.{Ops}
use Rattle.book.specs.declared.offer.Offered.{Offered}
use Rattle.book.specs.Answering.{scene_in, OfferAnswers}
use Rattle.book.specs.Calls.{Offers}
use Rattle.book.specs.Changes.{path_in}
use Rattle.book.specs.Refusing.{of_order}
use Rattle.book.specs.State.{Tables}
use Rattle.ticket.specs.declared.Order.{Order}
use Rattle.cabinet.specs.Serving.{OffersRoomy}

pub always_room : {V : Type 0} (o : Ops V) (w : Net) (n : Counts) (m : ℕ) (x : Tables) (q : Order) (room : ℕ) (r : Result (Offered V) BookFault) (y : Tables) → Counted w.counts → room ≡ 1024 → Offers o w n m x q.circuit q.from q.to room r y → OffersRoomy o w n m x q r y
always_room o w n m x q room r y k e h =
    let few : arrival_entries w.counts ≤ 1024 = mul-le w.counts.nodes w.counts.channels 64 16 k.1 k.4 in
    let enough = le-leb (arrival_entries w.counts) room (subst (λ i. arrival_entries w.counts ≤ i) (sym e) few) in
    let same = last_sound (of_order n w.counts x q.circuit q.from q.to) (nat_le (arrival_entries w.counts) room) WorkTable enough in
    record {
      answer = subst (λ d. OfferAnswers o (scene_in w x) m q.circuit q.from q.to (path_in n y q.circuit) d r) same h.answer;
      change = h.change;
    }
