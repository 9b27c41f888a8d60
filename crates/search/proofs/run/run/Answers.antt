use Rattle.std.proofs.Common.{refl, sym, ◌∙◌, subst}
use Rattle.semilightpath.specs.Carried.{charged_by}
use Rattle.semilightpath.specs.Scenes.{scene}
use Rattle.search.specs.Answers.{IsOutcome}
use Rattle.search.specs.Works.{labels_of}
use Rattle.search.proofs.Tries.{rest_on, counts_on}
use Rattle.search.proofs.Runs.{run_ends, round_goes_on, round_falls}
use Rattle.search.proofs.run.run.Goals as goal

pub loop-cost-smaller : goal.loop-cost-smaller
loop-cost-smaller g c =
    let a = c.args in
    let over = g.F.Fares.over a.fares.now in
    let was = c.loop-cost.work in
    round_falls (g.met.K.Kind.laws) (scene over (g.F.Fares.fare a.fares.now)) a.goal.now.node was c.settle.new.work c.settle.result c.point-point.result c.in-Some.cost c.point-point.ensures
    (c.settle.ensures.least c.in-Some.cost (c.settle.ensures.top ∙ c.in-Some.ensures.ahead.1)) c.settle.ensures.written (labels_of c.try_steps.new.work)
    (counts_on a.work.now was over.counts c.loop-cost.invariant.2 c.requires.counts) c.try_steps.ensures.settled

pub loop-cost-preserved : goal.loop-cost-preserved
loop-cost-preserved g c =
    let a = c.args in
    let over = g.F.Fares.over a.fares.now in
    let was = c.loop-cost.work in
    let is = c.settle.new.work in
    let then = c.try_steps.new.work in
    let node = c.loop-cost.invariant.1 in
    let on = round_goes_on (g.met.K.Kind.laws) (scene over (g.F.Fares.fare a.fares.now)) a.goal.now.node was is c.settle.result c.point-point.result c.in-Some.cost c.point-point.ensures
    (c.settle.ensures.least c.in-Some.cost (c.settle.ensures.top ∙ c.in-Some.ensures.ahead.1)) c.settle.ensures.written
    c.loop-cost.goal c.try_steps.new.goal (labels_of then) in (
      λ s searching bounds yet. let kept = c.loop-cost.invariant.0 s searching bounds yet in on s node (c.try_steps.ensures.node ∙ node) c.in-Some.ensures.ahead.2 c.try_steps.ensures.tries kept.0 kept.1 kept.2,
      c.try_steps.ensures.node ∙ node,
      rest_on a.work.now is then (rest_on a.work.now was is c.loop-cost.invariant.2 c.settle.ensures.rest) c.try_steps.ensures.rest,
    )

pub returns-clause-answer : goal.returns-clause-answer
returns-clause-answer g c =
    let a = c.args in
    let over = g.F.Fares.over a.fares.now in
    let fare = g.F.Fares.fare a.fares.now in
    let was = c.loop-cost.work in
    λ s searching bounds yet. let kept = c.loop-cost.invariant.0 s searching bounds yet in
    subst (IsOutcome g.K.Kind.ops (scene over fare) s a.goal.now.node was.labels.now) (sym c.found.ensures)
    (run_ends (g.met.K.Kind.laws) (scene over fare) (charged_by over fare (g.met.F.Fares.carried a.fares.now)) s a.goal.now.node was c.loop-cost.goal c.loop-cost.invariant.1 (counts_on a.work.now was over.counts c.loop-cost.invariant.2 c.requires.counts)
    kept.0 kept.2 kept.1 (c.in_default.ensures.reached refl))
