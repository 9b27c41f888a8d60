use Rattle.std.proofs.Common.{◌≡◌, ℕ, List, ◌↔◌, drop}
use Rattle.network.specs.declared.step.Step.{Step}
use Rattle.semilightpath.specs.declared.point.Point.{Point}
use Rattle.semilightpath.specs.Scenes.{Scene, scene}
use Rattle.semilightpath.specs.Paths.{begin, Goes, end_of}
use Rattle.semilightpath.proofs.path.is_semilightpath.Given as goal

-- a path that stands at a point can go on by these steps, and then stands at t
abbrev pub Leads : Scene → Point → List Step → ℕ → Type 0
Leads g a p t = Goes g a p × ((end_of g.net a p).node ≡ t)

-- the path leads to t just where what is left of it does
abbrev pub invariant-loop-step : goal.invariant-loop-step
invariant-loop-step g l =
    let s = scene (g.F.Fares.over l.fares) (g.F.Fares.fare l.fares) in
    Leads s (begin l.from) l.path l.to ↔ Leads s (record { node = l.node; entered = l.entered }) (drop l.step-index l.path) l.to
