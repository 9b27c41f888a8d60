use Rattle.std.proofs.Common.{◌≡◌, drop}
use Rattle.cost.specs.Charges.{after_all}
use Rattle.semilightpath.specs.Scenes.{scene}
use Rattle.semilightpath.specs.Costs.{charges, cost}
use Rattle.semilightpath.proofs.path.cost.Given as goal

-- what is left adds its charges to the value so far
abbrev pub invariant-loop-step : goal.invariant-loop-step
invariant-loop-step g l =
    let o = g.K.Kind.ops in
    let s = scene (g.F.Fares.over l.fares) (g.F.Fares.fare l.fares) in
    after_all o l.value (charges s l.entered (drop l.step-index l.path)) ≡ cost o s l.path
