use Rattle.std.proofs.Common.{◌≡◌, Some, sym, subst, ◌∙◌, arith}
use Rattle.std.proofs.lemmas.Bool.{true≢false}
use Rattle.network.specs.Net.{tariff_of}
use Rattle.network.specs.Steps.{Within}
use Rattle.semilightpath.specs.Carried.{charged_by}
use Rattle.semilightpath.specs.Scenes.{scene}
use Rattle.search.specs.Labels.{arrival_of}
use Rattle.search.specs.Works.{labels_of}
use Rattle.search.proofs.Aims.{tries_never, tries_bound_step, tries_known}
use Rattle.search.proofs.Tries.{step_cost, told_by, tries_taken, taken_settles}
use Rattle.search.proofs.relax.try_step.Goals as goal

pub returns-then-is_bound-clause-tries : goal.returns-then-is_bound-clause-tries
returns-then-is_bound-clause-tries g c =
    let a = c.args in
    let over = g.F.Fares.over a.fares.now in
    let fare = g.F.Fares.fare a.fares.now in
    let charged = charged_by over fare (g.met.F.Fares.carried a.fares.now) in
    let carried : tariff_of over a.step.span a.step.channel ≡ Some c.in-Some.tariff = grind (arith, c.tariff.ensures, c.in-Some.is, c.network-network.ensures, c.from.ensures, c.from-2.ensures) in
    let told = told_by (fare a.step) (tariff_of over a.step.span a.step.channel) c.in-Some.tariff (g.met.F.Fares.carried a.fares.now a.step) carried in
    λ v left joins.
    tries_bound_step (g.met.K.Kind.laws) (labels_of a.work.now) (scene over fare) a.goal.now a.from.point v a.step c.after_span-cost.result
    (step_cost (g.met.K.Kind.laws) (scene over fare) a.from.point v charged a.step a.from.cost c.after_span-cost.result _ left told c.after_span-cost.ensures)
    (sym c.is_bound.ensures ∙ c.if-is_bound.true)

pub returns-then-is_known-clause-tries : goal.returns-then-is_known-clause-tries
returns-then-is_known-clause-tries g c =
    let a = c.args in
    let over = g.F.Fares.over a.fares.now in
    let fare = g.F.Fares.fare a.fares.now in
    let charged = charged_by over fare (g.met.F.Fares.carried a.fares.now) in
    let carried : tariff_of over a.step.span a.step.channel ≡ Some c.in-Some.tariff = grind (arith, c.tariff.ensures, c.in-Some.is, c.network-network.ensures, c.from.ensures, c.from-2.ensures) in
    let told = told_by (fare a.step) (tariff_of over a.step.span a.step.channel) c.in-Some.tariff (g.met.F.Fares.carried a.fares.now a.step) carried in
    λ v left joins.
    tries_known (g.met.K.Kind.laws) (labels_of a.work.now) (scene over fare) a.goal.now a.from.point v a.step c.in-Some-arrival.arrival c.after_span-cost.result
    (step_cost (g.met.K.Kind.laws) (scene over fare) a.from.point v charged a.step a.from.cost c.after_span-cost.result _ left told c.after_span-cost.ensures)
    (subst (λ w. c.in-Some-arrival.arrival ≡ arrival_of w a.step) c.network-network.ensures c.in-Some-arrival.ensures.0)
    (sym c.is_known.ensures ∙ c.if-is_known.true)

pub returns-then-not-is_usable-clause-tries : goal.returns-then-not-is_usable-clause-tries
returns-then-not-is_usable-clause-tries g c =
    let a = c.args in
    λ v left joins.
    tries_never (g.met.K.Kind.laws) (labels_of a.work.now) (scene (g.F.Fares.over a.fares.now) (g.F.Fares.fare a.fares.now)) a.goal.now a.from.point v a.step
    (λ goes. true≢false (sym (c.is_usable.ensures.1 goes.0.1) ∙ c.if-not-is_usable.true))

pub returns-clause-tries : goal.returns-clause-tries
returns-clause-tries g c =
    let a = c.args in
    let over = g.F.Fares.over a.fares.now in
    let fare = g.F.Fares.fare a.fares.now in
    let charged = charged_by over fare (g.met.F.Fares.carried a.fares.now) in
    let carried : tariff_of over a.step.span a.step.channel ≡ Some c.in-Some.tariff = grind (arith, c.tariff.ensures, c.in-Some.is, c.network-network.ensures, c.from.ensures, c.from-2.ensures) in
    let told = told_by (fare a.step) (tariff_of over a.step.span a.step.channel) c.in-Some.tariff (g.met.F.Fares.carried a.fares.now a.step) carried in
    let into = c.in-Some-arrival.ensures in
    λ v left joins.
    tries_taken (g.met.K.Kind.laws) (scene over fare) a.from.point v charged a.goal.now c.aim.new.self (labels_of a.work.now) (labels_of c.propose.new.work)
    a.step c.in-Some-arrival.arrival a.from.cost c.after_span-cost.result c.in-Some.tariff left told c.after_span-cost.ensures
    ((subst (λ w. Within w.counts a.step) c.network-network.ensures into.2, c.is_usable.ensures.0 c.if-not-is_usable.false), c.requires.tail, joins)
    (subst (λ w. c.in-Some-arrival.arrival ≡ arrival_of w a.step) c.network-network.ensures into.0) (sym c.is_bound.ensures ∙ c.if-is_bound.false) (sym c.is_known.ensures ∙ c.if-is_known.false) c.propose.ensures.written c.aim.ensures

pub returns-clause-settled : goal.returns-clause-settled
returns-clause-settled g c =
    taken_settles g.K.Kind.ops (labels_of c.args.work.now) (labels_of c.propose.new.work) c.in-Some-arrival.arrival c.after_span-cost.result c.args.step c.args.from.point c.propose.ensures.written
