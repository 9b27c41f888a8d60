use Rattle.std.proofs.Common.{Ok, ap}
use Rattle.std.proofs.lemmas.Result.{err_from_is_err_and}
use Rattle.network.specs.Net.{net}
use Rattle.ticket.specs.declared.Ticket.{Ticket}
use Rattle.desk.specs.Serving.{asks_for_slip}
use Rattle.desk.proofs.Called.{told_so}
use Rattle.desk.proofs.Slipped.{slip_called}
use Rattle.desk.proofs.serving.call.Goals as goal

pub returns-in_err-count-in-Slip-clause-called : goal.returns-in_err-count-in-Slip-clause-called
returns-in_err-count-in-Slip-clause-called c =
    let p = err_from_is_err_and c.from_residual-in_err-count-in-Slip.result c.from_residual-in_err-count-in-Slip.ensures.1 in
    told_so _ _ _ _ _ _ _ p.1 (slip_called c.args.book.now (net c.args.network.now) c.in-Slip.circuit c.args.ticket _ _ c.slip.result _ _ c.in-Slip.is (c.requires (ap (λ (t : Ticket). asks_for_slip (Ok t)) c.in-Slip.is)) c.slip.ensures.call.answer c.in_err-count-in-Slip.was p.2)
