use Rattle.std.proofs.Common.{◌≡◌, ◌≢◌, ℕ, ◌<◌, ◌≤◌, ◌+◌, slice_index, inl, inr, ⊎_elim, sym, ◌∙◌, subst, arith}
use Rattle.std.proofs.lemmas.Bool.{cases_lt}
use Rattle.network.specs.Net.{net}
use Rattle.network.specs.Rows.{exit_rate}
use Rattle.semilightpath.specs.Carried.{charged_by}
use Rattle.semilightpath.specs.Scenes.{scene}
use Rattle.search.specs.Works.{labels_of}
use Rattle.search.proofs.Aims.{left_exit}
use Rattle.search.proofs.Alongs.{exited_as, converts, rated, exit_of, exit_later}
use Rattle.search.proofs.Tries.{tries_on, tries_more, tries_same, past_exit, rest_on, settled_on, number_either}
use Rattle.search.proofs.relax.try_exits.Goals as goal

pub returns-then-not-try_exit-clause-tries : goal.returns-then-not-try_exit-clause-tries
returns-then-not-try_exit-clause-tries g c =
    let a = c.args in
    let over = g.F.Fares.over a.fares.now in
    let fare = g.F.Fares.fare a.fares.now in
    let row = c.exits-channel-items.result.now in
    let i = c.loop-channel.channel-index in
    let was = labels_of c.loop-channel.work in
    let is = labels_of c.try_exit.new.work in
    let laws = g.met.K.Kind.laws in
    let u = a.from.point.node in
    let exited = exited_as (net c.network-network.result.now) over _ u _ a.entered row c.network-network.ensures c.from.ensures c.from-2.ensures c.exits-channel-items.ensures.exits in
    tries_more laws (scene over fare) a.from.point a.from.cost a.goal.now c.try_exit.new.goal (labels_of a.work.now) is _ _
    (tries_on laws (scene over fare) a.from.point a.from.cost a.goal.now c.loop-channel.goal c.try_exit.new.goal (labels_of a.work.now) was is _ _
    (λ e. (e.channel ≢ a.entered) × ((j : ℕ) × (j < i + 1) × (slice_index row j ≡ e.channel)))
    c.loop-channel.invariant.0 c.try_exit.ensures.tries c.try_exit.ensures.node
    (λ e goes h. ⊎_elim (λ k. inl (h.0, k)) (λ q. inr (sym q, h.0)) (number_either row i e.channel h.1)))
    (λ e goes h.
    let some = converts over a.from.point a.entered e.channel c.requires.entered h goes.2 in
    let at = exit_of over u a.entered row exited e.channel some in
    let rate = rated over u a.entered e.channel some in
    ⊎_elim
    (λ l. inl (h, (at.0, l, at.2)))
    (λ l. inr (past_exit laws (scene over fare) a.from.point a.from.cost (charged_by over fare (g.met.F.Fares.carried a.fares.now)) c.try_exit.new.goal is (exit_rate over u a.entered (slice_index row i))
    (c.try_exit.ensures.past c.if-not-try_exit.true)
    e (exit_rate over u a.entered e.channel)
    (subst (λ n. exit_rate over u a.entered (slice_index row i) ≤ exit_rate over u a.entered n) at.2 (exit_later over u a.entered row exited e.channel some i at.0 (omega (arith, l)) at.1))
    rate.1
    (sym (left_exit g.K.Kind.ops over a.from.point a.from.cost a.entered e.channel (exit_rate over u a.entered e.channel) c.requires.entered (λ q. h (sym q)) rate.0)) goes))
    (cases_lt at.0 (i + 1)))

pub loop-channel-preserved : goal.loop-channel-preserved
loop-channel-preserved g c =
    let a = c.args in
    let was = c.loop-channel.work in
    let is = c.try_exit.new.work in (
      tries_on (g.met.K.Kind.laws) (scene (g.F.Fares.over a.fares.now) (g.F.Fares.fare a.fares.now)) a.from.point a.from.cost a.goal.now c.loop-channel.goal c.try_exit.new.goal (labels_of a.work.now) (labels_of was) (labels_of is) _ _ _
          c.loop-channel.invariant.0 c.try_exit.ensures.tries c.try_exit.ensures.node
          (λ e goes h. ⊎_elim (λ k. inl (h.0, k)) (λ q. inr (sym q, h.0)) (number_either c.exits-channel-items.result.now c.loop-channel.channel-index e.channel h.1)),
      settled_on (labels_of a.work.now) (labels_of was) (labels_of is) c.loop-channel.invariant.1 c.try_exit.ensures.settled,
      c.try_exit.ensures.node ∙ c.loop-channel.invariant.2,
      rest_on a.work.now was is c.loop-channel.invariant.3 c.try_exit.ensures.rest,
    )

pub returns-clause-tries : goal.returns-clause-tries
returns-clause-tries g c =
    let a = c.args in
    let over = g.F.Fares.over a.fares.now in
    let row = c.exits-channel-items.result.now in
    let u = a.from.point.node in
    let exited = exited_as (net c.network-network.result.now) over _ u _ a.entered row c.network-network.ensures c.from.ensures c.from-2.ensures c.exits-channel-items.ensures.exits in
    tries_same (g.met.K.Kind.laws) (scene over (g.F.Fares.fare a.fares.now)) a.from.point a.from.cost a.goal.now c.loop-channel.goal (labels_of a.work.now) (labels_of c.loop-channel.work) _ _ c.loop-channel.invariant.0
    (λ e goes h.
    let at = exit_of over u a.entered row exited e.channel (converts over a.from.point a.entered e.channel c.requires.entered h goes.2) in
    let below = at.1 in
    (h, (at.0, omega (arith, below, c.loop-channel-test.false), at.2)))
