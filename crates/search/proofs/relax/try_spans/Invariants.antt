use Rattle.std.proofs.Common.{◌≡◌, ℕ, ◌<◌, slice_index}
use Rattle.semilightpath.specs.Scenes.{scene}
use Rattle.search.specs.Works.{labels_of, KeepsRest}
use Rattle.search.specs.Invariants.{TriesOn, KeepsSettled}
use Rattle.search.proofs.relax.try_spans.Given as goal

abbrev pub invariant-loop-span : goal.invariant-loop-span
invariant-loop-span g l =
    TriesOn g.K.Kind.ops (scene (g.F.Fares.over l.fares) (g.F.Fares.fare l.fares)) l.initial.goal l.goal (labels_of l.initial.work) (labels_of l.work) l.from.point l.from.cost l.channel
    (λ e. (e.channel ≡ l.channel) × ((j : ℕ) × (j < l.span-index) × (slice_index l.span-items j ≡ e.span)))
    × KeepsSettled (labels_of l.initial.work) (labels_of l.work)
    × (l.goal.node ≡ l.initial.goal.node)
    × KeepsRest l.initial.work l.work
