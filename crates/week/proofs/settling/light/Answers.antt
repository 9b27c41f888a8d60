use Rattle.std.proofs.Common.{Err, ap, ◌∙◌}
use Rattle.std.proofs.lemmas.Result.{err_from_is_err_and}
use Rattle.network.specs.Net.{net}
use Rattle.cost.specs.Fews.{few_ops}
use Rattle.cost.specs.Numberings.{tally_numbers}
use Rattle.account.specs.Events.{confirms}
use Rattle.account.proofs.Calls.{confirm_leads}
use Rattle.week.proofs.Settles.{refused_goes, settled_goes}
use Rattle.week.proofs.settling.light.Goals as goal

pub returns-in_err-offer-clause-calls : goal.returns-in_err-offer-clause-calls
returns-in_err-offer-clause-calls c =
    let p = err_from_is_err_and c.from_residual.result c.from_residual.ensures.1 in
    refused_goes (λ o k. confirms o k) tally_numbers few_ops (net c.args.network.now) _ _ _ _ _ _ c.offer.result c.offer.ensures.kept (c.offer.ensures.numbered tally_numbers) _ _ c.in_err-offer.was (p.1 ∙ ap Err p.2)

pub returns-clause-calls : goal.returns-clause-calls
returns-clause-calls c =
    settled_goes (λ o k. confirms o k) tally_numbers few_ops (net c.args.network.now) _ _ _ _ _ _ c.offer.result c.offer.ensures.kept (c.offer.ensures.numbered tally_numbers) _ c.in_ok-offer.field-0 c.confirm.result _ c.in_ok-offer.was c.in-Ok.is
    (confirm_leads c.offer.new.self c.confirm.new.self c.confirm.ensures.kept c.in_ok-offer.field-0.offer c.confirm.result c.confirm.ensures.call)
