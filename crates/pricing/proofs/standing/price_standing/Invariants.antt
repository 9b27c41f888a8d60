use Rattle.std.proofs.Common.{◌-◌, Some}
use Rattle.network.specs.Net.{net}
use Rattle.records.specs.Chains.{along}
use Rattle.semilightpath.specs.Scenes.{alone}
use Rattle.semilightpath.specs.Costs.{cost}
use Rattle.pricing.proofs.Left.{Comes}
use Rattle.pricing.proofs.standing.price_standing.Given as goal

-- what is left brings the value so far to what the path costs
abbrev pub invariant-loop : goal.invariant-loop
invariant-loop g l =
    let w = net l.fn.network in
    let o = g.K.Kind.ops in
    Comes o (alone w) w.counts l.channels (cost o (alone w) (along w.counts l.channels (Some l.fn.route))) l.value l.entered (l.fn.route.steps - l.counter) l.at
