use Rattle.std.proofs.Common.{◌≡◌, ◌≢◌}
use Rattle.std.proofs.lemmas.Bool.{cases_eq}
use Rattle.semilightpath.specs.Scenes.{scene}
use Rattle.search.specs.Works.{labels_of}
use Rattle.search.proofs.Aims.{left_same, same_joins}
use Rattle.search.proofs.Tries.{tries_on}
use Rattle.search.proofs.relax.try_steps.Goals as goal

pub returns-clause-tries : goal.returns-clause-tries
returns-clause-tries g c =
    let a = c.args in
    let over = g.F.Fares.over a.fares.now in
    tries_on (g.met.K.Kind.laws) (scene over (g.F.Fares.fare a.fares.now)) a.from.point a.from.cost a.goal.now c.try_spans.new.goal c.try_exits.new.goal (labels_of a.work.now) (labels_of c.try_spans.new.work) (labels_of c.try_exits.new.work)
    (λ e. e.channel ≡ c.in-Some.entered) (λ e. e.channel ≢ c.in-Some.entered) _
    (c.try_spans.ensures.tries a.from.cost (left_same g.K.Kind.ops over a.from.point a.from.cost c.in-Some.entered c.in-Some.is) (same_joins over a.from.point c.in-Some.entered c.in-Some.is)) c.try_exits.ensures.tries c.try_exits.ensures.node
    (λ e goes h. cases_eq e.channel c.in-Some.entered)
