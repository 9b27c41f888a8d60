use Rattle.std.proofs.Common.{rules, ap, ◌∙◌}
use Rattle.plan.specs.Telling.{tells}
use Rattle.plan.specs.Plan.{read}
use Rattle.cabinet.proofs.Ran.{read_is, comes}
use Rattle.cabinet.proofs.cabinet_run.Goals as goal

pub returns : goal.returns
returns c =
    let a = c.in-Ok.ensures in
    let w = c.network-network.ensures.is ∙ ap tells (read_is c.args.plan.now c.in-Ok.plan a.1.told) in
    comes _ (tells (read c.args.plan.now)) _ c.args.requests.now c.args.replies.now c.run.new.replies _ _ _ c.min-count.result a.0 w (search rules) (search rules) c.accepted.ensures c.run.ensures
