use Rattle.std.proofs.Common.{◌≡◌, ◌<◌}
use Rattle.semilightpath.specs.Scenes.{scene}
use Rattle.search.specs.Works.{labels_of, KeepsRest}
use Rattle.search.specs.Invariants.{Tries, KeepsSettled}
use Rattle.search.proofs.relax.try_all.Given as goal

abbrev pub invariant-loop-channel : goal.invariant-loop-channel
invariant-loop-channel g l =
    Tries g.K.Kind.ops (scene (g.F.Fares.over l.fares) (g.F.Fares.fare l.fares)) l.initial.goal l.goal (labels_of l.initial.work) (labels_of l.work) l.from.point l.from.cost (λ e. e.channel < l.channel)
    × KeepsSettled (labels_of l.initial.work) (labels_of l.work)
    × (l.goal.node ≡ l.initial.goal.node)
    × KeepsRest l.initial.work l.work
