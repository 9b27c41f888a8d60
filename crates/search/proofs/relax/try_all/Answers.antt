use Rattle.std.proofs.Common.{ℕ, ap, ◌∙◌, arith}
use Rattle.semilightpath.specs.Scenes.{scene}
use Rattle.search.specs.Works.{labels_of}
use Rattle.search.proofs.Aims.{left_begun, begun_joins}
use Rattle.search.proofs.Tries.{tries_on, tries_same, rest_on, settled_on, channel_either}
use Rattle.search.proofs.relax.try_all.Goals as goal

pub loop-channel-preserved : goal.loop-channel-preserved
loop-channel-preserved g c =
    let a = c.args in
    let over = g.F.Fares.over a.fares.now in
    let was = c.loop-channel.work in
    let is = c.try_spans.new.work in (
      tries_on (g.met.K.Kind.laws) (scene over (g.F.Fares.fare a.fares.now)) a.from.point a.from.cost a.goal.now c.loop-channel.goal c.try_spans.new.goal (labels_of a.work.now) (labels_of was) (labels_of is) _ _ _
          c.loop-channel.invariant.0 (c.try_spans.ensures.tries a.from.cost (left_begun g.K.Kind.ops over a.from.point a.from.cost c.loop-channel.channel c.requires.begins) (begun_joins over a.from.point c.loop-channel.channel c.requires.begins)) c.try_spans.ensures.node (λ e goes h. channel_either e c.loop-channel.channel h),
      settled_on (labels_of a.work.now) (labels_of was) (labels_of is) c.loop-channel.invariant.1 c.try_spans.ensures.settled,
      c.try_spans.ensures.node ∙ c.loop-channel.invariant.2,
      rest_on a.work.now was is c.loop-channel.invariant.3 c.try_spans.ensures.rest,
    )

pub returns-clause-tries : goal.returns-clause-tries
returns-clause-tries g c =
    let a = c.args in
    let over = g.F.Fares.over a.fares.now in
    tries_same (g.met.K.Kind.laws) (scene over (g.F.Fares.fare a.fares.now)) a.from.point a.from.cost a.goal.now c.loop-channel.goal (labels_of a.work.now) (labels_of c.loop-channel.work) _ _ c.loop-channel.invariant.0
    (λ e goes h.
    let within = goes.0.0.1 in
    let counts = ap {B = ℕ} (λ w. w.counts.channels) c.network.ensures in
    let told = ap {B = ℕ} (λ n. n.channels) c.counts-channel-end.ensures in
    omega (arith, within, counts, told, c.loop-channel-test.false))
