use Rattle.std.proofs.Common.{◌≡◌, ℕ, ◌<◌, ◌≤◌, ◌+◌, slice_index, inl, inr, ⊎_elim, sym, ap, ap₂, ◌∙◌, subst, arith}
use Rattle.std.proofs.lemmas.Bool.{cases_lt}
use Rattle.network.specs.Net.{net, tariff_of}
use Rattle.network.specs.Rows.{span_rate}
use Rattle.network.specs.Steps.{step}
use Rattle.network.specs.Limits.{span_at}
use Rattle.semilightpath.specs.Costs.{left as left_on}
use Rattle.semilightpath.specs.Carried.{charged_by}
use Rattle.semilightpath.specs.Scenes.{scene}
use Rattle.search.specs.Goals.{Past}
use Rattle.search.specs.Works.{labels_of}
use Rattle.search.proofs.Alongs.{wayed_as, way_tail, way_of, way_later}
use Rattle.search.proofs.Tries.{tries_on, tries_more, tries_same, past_span, told_rate, rest_on, settled_on, number_either}
use Rattle.search.proofs.relax.try_spans.Goals as goal

pub try_step-requires-clause-tail : goal.try_step-requires-clause-tail
try_step-requires-clause-tail g c =
    let a = c.args in
    let over = g.F.Fares.over a.fares.now in
    let row = c.ways-span-items.result.now in
    let wayed = wayed_as (net c.network-network.result.now) over _ a.from.point.node _ a.channel row c.network-network.ensures c.from.ensures c.from-2.ensures (c.ways-span-items.ensures.ways, c.ways-span-items.ensures.beyond) in
    subst (λ n. (span_at over.ends n).tail ≡ a.from.point.node) (sym c.from-in-loop-span.ensures) (way_tail over a.from.point.node a.channel row wayed c.loop-span.span-index c.loop-span-test.true)

pub returns-then-not-try_step-clause-tries : goal.returns-then-not-try_step-clause-tries
returns-then-not-try_step-clause-tries g c =
    let a = c.args in
    let over = g.F.Fares.over a.fares.now in
    let fare = g.F.Fares.fare a.fares.now in
    let row = c.ways-span-items.result.now in
    let i = c.loop-span.span-index in
    let was = labels_of c.loop-span.work in
    let is = labels_of c.try_step.new.work in
    let laws = g.met.K.Kind.laws in
    let wayed = wayed_as (net c.network-network.result.now) over _ a.from.point.node _ a.channel row c.network-network.ensures c.from.ensures c.from-2.ensures (c.ways-span-items.ensures.ways, c.ways-span-items.ensures.beyond) in
    λ v left joins.
    tries_more laws (scene over fare) a.from.point v a.goal.now c.try_step.new.goal (labels_of a.work.now) is _ _
    (tries_on laws (scene over fare) a.from.point v a.goal.now c.loop-span.goal c.try_step.new.goal (labels_of a.work.now) was is _ _
    (λ e. (e.channel ≡ a.channel) × ((j : ℕ) × (j < i + 1) × (slice_index row j ≡ e.span)))
    (c.loop-span.invariant.0 v left joins) (c.try_step.ensures.tries v left joins) c.try_step.ensures.node
    (λ e goes h. ⊎_elim (λ k. inl (h.0, k)) (λ q. inr (ap₂ step (sym q ∙ sym c.from-in-loop-span.ensures) h.0)) (number_either row i e.span h.1)))
    (λ e goes h.
    let at = way_of over a.from.point.node a.channel row wayed e goes.0.0 h goes.1 in
    ⊎_elim
    (λ l. inl (h, (at.0, l, at.2)))
    (λ l. inr (past_span laws (scene over fare) a.from.point v (charged_by over fare (g.met.F.Fares.carried a.fares.now)) c.try_step.new.goal is a.from.cost (span_rate over a.channel (slice_index row i))
    (subst (λ n. Past g.K.Kind.ops c.try_step.new.goal.best g.K.Kind.ops.span a.from.cost (span_rate over a.channel n)) c.from-in-loop-span.ensures (c.try_step.ensures.past c.if-not-try_step.true))
    e (span_rate over e.channel e.span)
    (subst (λ n. span_rate over a.channel (slice_index row i) ≤ span_rate over e.channel n) at.2
    (subst (λ b. span_rate over a.channel (slice_index row i) ≤ span_rate over b (slice_index row at.0)) (sym h) (way_later over a.from.point.node a.channel row wayed i at.0 (omega (arith, l)) at.1)))
    (left ∙ ap (left_on g.K.Kind.ops over a.from.point v) (sym h)) (told_rate (fare e) (tariff_of over e.span e.channel) (g.met.F.Fares.carried a.fares.now e)) goes))
    (cases_lt at.0 (i + 1)))

pub loop-span-preserved : goal.loop-span-preserved
loop-span-preserved g c =
    let a = c.args in
    let over = g.F.Fares.over a.fares.now in
    let was = c.loop-span.work in
    let is = c.try_step.new.work in
    let i = c.loop-span.span-index in (
      λ v left joins.
          tries_on (g.met.K.Kind.laws) (scene over (g.F.Fares.fare a.fares.now)) a.from.point v a.goal.now c.loop-span.goal c.try_step.new.goal (labels_of a.work.now) (labels_of was) (labels_of is) _ _ _
          (c.loop-span.invariant.0 v left joins) (c.try_step.ensures.tries v left joins) c.try_step.ensures.node
          (λ e goes h. ⊎_elim (λ k. inl (h.0, k)) (λ q. inr (ap₂ step (sym q ∙ sym c.from-in-loop-span.ensures) h.0)) (number_either c.ways-span-items.result.now i e.span h.1)),
      settled_on (labels_of a.work.now) (labels_of was) (labels_of is) c.loop-span.invariant.1 c.try_step.ensures.settled,
      c.try_step.ensures.node ∙ c.loop-span.invariant.2,
      rest_on a.work.now was is c.loop-span.invariant.3 c.try_step.ensures.rest,
    )

pub returns-clause-tries : goal.returns-clause-tries
returns-clause-tries g c =
    let a = c.args in
    let over = g.F.Fares.over a.fares.now in
    let row = c.ways-span-items.result.now in
    let wayed = wayed_as (net c.network-network.result.now) over _ a.from.point.node _ a.channel row c.network-network.ensures c.from.ensures c.from-2.ensures (c.ways-span-items.ensures.ways, c.ways-span-items.ensures.beyond) in
    λ v left joins.
    tries_same (g.met.K.Kind.laws) (scene over (g.F.Fares.fare a.fares.now)) a.from.point v a.goal.now c.loop-span.goal (labels_of a.work.now) (labels_of c.loop-span.work) _ _ (c.loop-span.invariant.0 v left joins)
    (λ e goes h.
    let at = way_of over a.from.point.node a.channel row wayed e goes.0.0 h goes.1 in
    let below = at.1 in
    (h, (at.0, omega (arith, below, c.loop-span-test.false), at.2)))
