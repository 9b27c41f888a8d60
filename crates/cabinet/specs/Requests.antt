-- What a request asks for.
use Rattle.std.specs.Prelude.{ℕ, cond, ◌==◌, Ok, Err, Result}
use Rattle.fault.specs.declared.ticket.TicketFault.{TicketFault}
use Rattle.fault.specs.declared.ticket.TicketFault.TheVariants as fault
use Rattle.ticket.specs.declared.CostKind.{CostKind}
use Rattle.ticket.specs.declared.CostKind.TheVariants as kind
use Rattle.ticket.specs.declared.Order.{Order}
use Rattle.cabinet.specs.declared.request.Call.{Call}
use Rattle.cabinet.specs.declared.request.Call.TheVariants as call
use Rattle.cabinet.specs.declared.request.Request.{Request}

-- the kind of cost that a number names
abbrev pub kind_of : ℕ → Result CostKind TicketFault
kind_of k = cond (k == 0) (Ok kind.Sum) (cond (k == 1) (Ok kind.Few) (cond (k == 2) (Ok kind.Worst) (Err (fault.Kind 0))))

abbrev pub order_of : Request → CostKind → Order
order_of q k = record { circuit = q.circuit; from = q.from; to = q.to; kind = k }

abbrev pub offer_by : Request → Result CostKind TicketFault → Result Call TicketFault
offer_by q (Ok k) = Ok (call.Offer (order_of q k))
offer_by q (Err f) = Err f

abbrev pub offer_of : Request → Result Call TicketFault
offer_of q = offer_by q (kind_of q.kind)

-- the call that a request names: 1 to 6
abbrev pub call_of : Request → Result Call TicketFault
call_of q =
    cond (q.call == 1) (offer_of q)
    (cond (q.call == 2) (Ok call.Confirm)
    (cond (q.call == 3) (Ok call.Withdraw)
    (cond (q.call == 4) (Ok (call.Darken q.circuit))
    (cond (q.call == 5) (Ok (call.Shut q.span))
    (cond (q.call == 6) (Ok (call.Slip q.circuit q.place))
    (Err (fault.Verb 0)))))))
