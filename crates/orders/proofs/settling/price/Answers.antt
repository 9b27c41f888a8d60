use Rattle.std.proofs.Common.{length, Option, Err, refl, ap, ◌∙◌}
use Rattle.std.proofs.lemmas.Result.{err_from_is_err_and}
use Rattle.network.specs.Net.{net}
use Rattle.book.specs.Answering.{scene_in}
use Rattle.book.specs.Changes.{path_in}
use Rattle.fault.specs.declared.book.BookFault.{BookFault}
use Rattle.book.specs.declared.offer.Offered.{Offered}
use Rattle.book.specs.Refusing.{spend_refusal}
use Rattle.book.specs.State.{Tables, tables}
use Rattle.orders.specs.Orders.{is_found}
use Rattle.orders.proofs.Settled.{refused_order, made_order, was_spent, not_refused, never_back, took_so, then_freed, as_before}
use Rattle.orders.proofs.settling.price.Goals as goal

pub returns-in_err-cost-clause-answer : goal.returns-in_err-cost-clause-answer
returns-in_err-cost-clause-answer g c =
    let p = err_from_is_err_and c.from_residual.result c.from_residual.ensures.1 in
    refused_order g.K.Kind.ops (scene_in (net c.args.network.now) (tables c.args.book.now)) c.args.book.now.mark c.args.circuit c.args.from c.args.to (path_in c.args.book.now.extent.counts (tables c.offer.new.self) c.args.circuit) _ c.offer.result _ _ _
    c.offer.ensures.call.answer c.in_err-cost.was (p.1 ∙ ap Err p.2)

pub returns-clause-answer : goal.returns-clause-answer
returns-clause-answer g c =
    let m = made_order g.K.Kind.ops (scene_in (net c.args.network.now) (tables c.args.book.now)) c.args.book.now.mark c.args.circuit c.args.from c.args.to (path_in c.args.book.now.extent.counts (tables c.offer.new.self) c.args.circuit) _ c.offer.result c.in_ok-cost.field-0 c.offer.ensures.call.answer c.in_ok-cost.was in
    is_found m.0 _ c.in_ok-cost.field-0.cost m.1.cheapest refl

pub returns-clause-tables : goal.returns-clause-tables
returns-clause-tables g c =
    let m = made_order g.K.Kind.ops (scene_in (net c.args.network.now) (tables c.args.book.now)) c.args.book.now.mark c.args.circuit c.args.from c.args.to (path_in c.args.book.now.extent.counts (tables c.offer.new.self) c.args.circuit) _ c.offer.result c.in_ok-cost.field-0 c.offer.ensures.call.answer c.in_ok-cost.was in
    let q : Offered g.row.K-Value.Denot = c.in_ok-cost.field-0 in
    let y : Tables = tables c.offer.new.self in
    let z : Tables = tables c.withdraw.new.self in
    let due : Option BookFault = spend_refusal c.offer.new.self.mark y q.offer in
    let none = was_spent due q.offer _ _ _ c.withdraw.ensures.call.answer c.in-Ok.is in
    let its = m.1.circuit in
    let took = took_so _ _ _ _ _ _ _ y z _ q due _ c.in_ok-cost.was c.offer.ensures.call.change.tables c.offer.ensures.kept.counts its none in
    let freed = then_freed _ _ _ _ _ _ _ y z _ q due _ c.in_ok-cost.was c.offer.ensures.call.change.tables c.offer.ensures.kept.counts its none c.withdraw.ensures.call.change.tables in
    as_before g.K.Kind.ops (net c.args.network.now) _ _ _ _ _ _ _ _ _ _ m.0 m.1.cheapest refl took freed

pub unreachable-requires : goal.unreachable-requires
unreachable-requires g c =
    let m = made_order g.K.Kind.ops (scene_in (net c.args.network.now) (tables c.args.book.now)) c.args.book.now.mark c.args.circuit c.args.from c.args.to (path_in c.args.book.now.extent.counts (tables c.offer.new.self) c.args.circuit) _ c.offer.result c.in_ok-cost.field-0 c.offer.ensures.call.answer c.in_ok-cost.was in
    let q : Offered g.row.K-Value.Denot = c.in_ok-cost.field-0 in
    never_back (spend_refusal c.offer.new.self.mark (tables c.offer.new.self) q.offer) q.offer (length (path_in c.offer.new.self.extent.counts (tables c.offer.new.self) q.offer.circuit)) c.withdraw.result _ c.withdraw.ensures.call.answer
    (not_refused c.args.book.now.extent.counts c.args.book.now.mark c.offer.new.self.mark c.args.circuit c.args.from c.args.to (tables c.args.book.now) (tables c.offer.new.self) (path_in c.args.book.now.extent.counts (tables c.offer.new.self) c.args.circuit) c.offer.result q c.in_ok-cost.was c.offer.ensures.call.change.tables c.offer.ensures.kept.mark m.1.mark m.1.circuit q.offer.known c.args.book.now.rows) c.in-Err.is
