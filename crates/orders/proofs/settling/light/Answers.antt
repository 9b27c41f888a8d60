use Rattle.std.proofs.Common.{Option, Err, refl, ap, ◌∙◌}
use Rattle.std.proofs.lemmas.Result.{err_from_is_err_and}
use Rattle.network.specs.Net.{net}
use Rattle.book.specs.Answering.{scene_in}
use Rattle.book.specs.Changes.{path_in}
use Rattle.fault.specs.declared.book.BookFault.{BookFault}
use Rattle.book.specs.declared.offer.Offered.{Offered}
use Rattle.book.specs.Refusing.{spend_refusal}
use Rattle.book.specs.State.{tables}
use Rattle.orders.specs.Orders.{is_found}
use Rattle.orders.proofs.Settled.{refused_order, made_order, was_spent, not_refused, never_back, then_lit, unmade}
use Rattle.orders.proofs.settling.light.Goals as goal

pub returns-in_err-cost-clause-answer : goal.returns-in_err-cost-clause-answer
returns-in_err-cost-clause-answer g c =
    let p = err_from_is_err_and c.from_residual.result c.from_residual.ensures.1 in
    refused_order g.K.Kind.ops (scene_in (net c.args.network.now) (tables c.args.book.now)) c.args.book.now.mark c.args.circuit c.args.from c.args.to (path_in c.args.book.now.extent.counts (tables c.offer.new.self) c.args.circuit) _ c.offer.result _ _ _
    c.offer.ensures.call.answer c.in_err-cost.was (p.1 ∙ ap Err p.2, unmade _ _ _ _ _ _ _ _ _ c.in_err-cost.was c.offer.ensures.call.change.tables)

pub returns-clause-answer : goal.returns-clause-answer
returns-clause-answer g c =
    let m = made_order g.K.Kind.ops (scene_in (net c.args.network.now) (tables c.args.book.now)) c.args.book.now.mark c.args.circuit c.args.from c.args.to (path_in c.args.book.now.extent.counts (tables c.offer.new.self) c.args.circuit) _ c.offer.result c.in_ok-cost.field-0 c.offer.ensures.call.answer c.in_ok-cost.was in
    let q : Offered g.row.K-Value.Denot = c.in_ok-cost.field-0 in
    let due : Option BookFault = spend_refusal c.offer.new.self.mark (tables c.offer.new.self) q.offer in
    let none = was_spent due q.offer q.offer.circuit _ _ c.confirm.ensures.call.answer c.in-Ok.is in
    is_found m.0 _ c.in_ok-cost.field-0.cost m.1.cheapest
    (refl, then_lit _ _ _ _ _ _ _ _ _ _ _ _ _ c.in_ok-cost.was c.offer.ensures.call.change.tables c.offer.ensures.kept.counts m.1.circuit none c.offer.ensures.call.change c.confirm.ensures.call.change)

pub unreachable-requires : goal.unreachable-requires
unreachable-requires g c =
    let m = made_order g.K.Kind.ops (scene_in (net c.args.network.now) (tables c.args.book.now)) c.args.book.now.mark c.args.circuit c.args.from c.args.to (path_in c.args.book.now.extent.counts (tables c.offer.new.self) c.args.circuit) _ c.offer.result c.in_ok-cost.field-0 c.offer.ensures.call.answer c.in_ok-cost.was in
    let q : Offered g.row.K-Value.Denot = c.in_ok-cost.field-0 in
    never_back (spend_refusal c.offer.new.self.mark (tables c.offer.new.self) q.offer) q.offer q.offer.circuit c.confirm.result _ c.confirm.ensures.call.answer
    (not_refused c.args.book.now.extent.counts c.args.book.now.mark c.offer.new.self.mark c.args.circuit c.args.from c.args.to (tables c.args.book.now) (tables c.offer.new.self) (path_in c.args.book.now.extent.counts (tables c.offer.new.self) c.args.circuit) c.offer.result q c.in_ok-cost.was c.offer.ensures.call.change.tables c.offer.ensures.kept.mark m.1.mark m.1.circuit q.offer.known c.args.book.now.rows) c.in-Err.is
