use Rattle.std.proofs.Common.{sym, ◌∙◌, arith}
use Rattle.search.proofs.Frontiers.{top_open, top_reached}
use Rattle.search.proofs.frontier.ahead.Goals as goal

pub returns-in_err-cost-clause-reached : goal.returns-in_err-cost-clause-reached
returns-in_err-cost-clause-reached g c =
    let w = c.args.work.now in
    absurd (top_open w.extent.counts w.labels.now w.slots w.seats w.count w.listed w.seated (omega (arith, c.if-work-eq0.false)) (sym c.top.ensures ∙ c.in_err-cost.was))

pub returns-then-is_bound-clause-reached : goal.returns-then-is_bound-clause-reached
returns-then-is_bound-clause-reached g c =
    let w = c.args.work.now in
    λ none. top_reached w.extent.counts w.labels.now w.slots w.seats w.count w.listed w.seated g.K.Kind.ops (g.met.K.Kind.laws) w.heap (omega (arith, c.if-work-eq0.false)) c.args.goal.now c.in_ok-cost.cost (sym c.top.ensures ∙ c.in_ok-cost.was) (sym c.is_bound.ensures ∙ c.if-is_bound.true)
