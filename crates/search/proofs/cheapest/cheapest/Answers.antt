use Rattle.std.proofs.Common.{None, refl, subst, arith}
use Rattle.semilightpath.specs.Scenes.{scene}
use Rattle.search.specs.declared.goal.Goal.{Goal}
use Rattle.search.specs.Answers.{IsOutcome}
use Rattle.search.specs.Works.{labels_of}
use Rattle.search.proofs.Entries.{none_entered}
use Rattle.search.proofs.Runs.{first_searches, first_bounds, first_not_yet}
use Rattle.search.proofs.cheapest.cheapest.Goals as goal

pub returns-then-not-is_entered-clause-answer : goal.returns-then-not-is_entered-clause-answer
returns-then-not-is_entered-clause-answer g c = none_entered (scene (g.F.Fares.over c.args.fares.now) (g.F.Fares.fare c.args.fares.now)) c.args.from c.args.to (c.is_entered.ensures c.if-not-is_entered.true)

pub returns-clause-answer : goal.returns-clause-answer
returns-clause-answer g c =
    let a = c.args in
    let scene = scene (g.F.Fares.over a.fares.now) (g.F.Fares.fare a.fares.now) in
    let laws = g.met.K.Kind.laws in
    let was = labels_of c.new-work.result in
    let is = labels_of c.try_steps.new.work in
    let aim : Goal g.row.K-Value.Denot = record { node = a.to; best = None } in
    let goal' = c.try_steps.new.goal in
    let first = c.try_steps.ensures.tries in
    let searches = first_searches laws scene a.from aim goal' was is _ _ c.new-work.ensures.unknown refl refl c.start-cost.ensures first in
    let bounds = first_bounds laws scene a.from aim goal' was is _ _ c.new-work.ensures.unknown refl refl c.start-cost.ensures first in
    let yet = first_not_yet laws scene a.from aim goal' was is _ _ c.new-work.ensures.unknown refl refl c.start-cost.ensures first in
    let found = subst (λ t. IsOutcome g.K.Kind.ops scene a.from t c.run.new.work.labels.now c.run.result) c.try_steps.ensures.node (c.run.ensures.answer a.from searches bounds yet) in
    grind (arith, found)
