use Rattle.std.proofs.Common.{◌≡◌, ◌≢◌, Some, sym, ◌∙◌, arith}
use Rattle.std.proofs.lemmas.Option.{none-some, same_Some}
use Rattle.network.specs.Net.{converter_of}
use Rattle.semilightpath.specs.Carried.{charged_by}
use Rattle.semilightpath.specs.Scenes.{scene}
use Rattle.search.specs.Works.{labels_of}
use Rattle.search.proofs.Aims.{left_exit, exit_joins, tries_bound, tries_entered}
use Rattle.search.proofs.Tries.{tries_same}
use Rattle.search.proofs.relax.try_exit.Goals as goal

pub returns-then-is_bound-clause-tries : goal.returns-then-is_bound-clause-tries
returns-then-is_bound-clause-tries g c =
    let a = c.args in
    let over = g.F.Fares.over a.fares.now in
    let fare = g.F.Fares.fare a.fares.now in
    let was = labels_of a.work.now in
    let ne : a.entered ≢ a.channel = λ q. none-some _ (sym (c.converter-converter.ensures.proper (c.from-2.ensures ∙ q ∙ sym c.from-3.ensures)) ∙ c.in-Some.is) in
    let is : converter_of over a.from.point.node a.entered a.channel ≡ Some c.in-Some.tariff = grind (arith, c.converter-converter.ensures.is, c.in-Some.is, c.network-network.ensures, c.from.ensures, c.from-2.ensures, c.from-3.ensures) in
    let left = c.after_conversion-cost.ensures ∙ left_exit g.K.Kind.ops over a.from.point a.from.cost a.entered a.channel c.in-Some.tariff c.requires.entered ne is in
    tries_same (g.met.K.Kind.laws) (scene over fare) a.from.point a.from.cost a.goal.now a.goal.now was was _ _
    (tries_bound (g.met.K.Kind.laws) was (scene over fare) a.goal.now a.from.point a.from.cost (charged_by over fare (g.met.F.Fares.carried a.fares.now)) a.channel _ left (sym c.is_bound.ensures ∙ c.if-is_bound.true))
    (λ e goes h. h.0)

pub returns-then-not-is_known-clause-tries : goal.returns-then-not-is_known-clause-tries
returns-then-not-is_known-clause-tries g c =
    let a = c.args in
    let over = g.F.Fares.over a.fares.now in
    let fare = g.F.Fares.fare a.fares.now in
    let ne : a.entered ≢ a.channel = λ q. none-some _ (sym (c.converter-converter.ensures.proper (c.from-2.ensures ∙ q ∙ sym c.from-3.ensures)) ∙ c.in-Some.is) in
    let is : converter_of over a.from.point.node a.entered a.channel ≡ Some c.in-Some.tariff = grind (arith, c.converter-converter.ensures.is, c.in-Some.is, c.network-network.ensures, c.from.ensures, c.from-2.ensures, c.from-3.ensures) in
    let left = c.after_conversion-cost.ensures ∙ left_exit g.K.Kind.ops over a.from.point a.from.cost a.entered a.channel c.in-Some.tariff c.requires.entered ne is in
    tries_same (g.met.K.Kind.laws) (scene over fare) a.from.point a.from.cost a.goal.now c.try_spans.new.goal (labels_of a.work.now) (labels_of c.try_spans.new.work) _ _
    (c.try_spans.ensures.tries a.from.cost left (exit_joins over a.from.point a.entered a.channel c.in-Some.tariff c.requires.entered is))
    (λ e goes h. h.0)

pub returns-else-not-is_known-clause-tries : goal.returns-else-not-is_known-clause-tries
returns-else-not-is_known-clause-tries g c =
    let a = c.args in
    let over = g.F.Fares.over a.fares.now in
    let fare = g.F.Fares.fare a.fares.now in
    let was = labels_of a.work.now in
    let ne : a.entered ≢ a.channel = λ q. none-some _ (sym (c.converter-converter.ensures.proper (c.from-2.ensures ∙ q ∙ sym c.from-3.ensures)) ∙ c.in-Some.is) in
    let is : converter_of over a.from.point.node a.entered a.channel ≡ Some c.in-Some.tariff = grind (arith, c.converter-converter.ensures.is, c.in-Some.is, c.network-network.ensures, c.from.ensures, c.from-2.ensures, c.from-3.ensures) in
    let left = c.after_conversion-cost.ensures ∙ left_exit g.K.Kind.ops over a.from.point a.from.cost a.entered a.channel c.in-Some.tariff c.requires.entered ne is in
    tries_same (g.met.K.Kind.laws) (scene over fare) a.from.point a.from.cost a.goal.now a.goal.now was was _ _
    (tries_entered (g.met.K.Kind.laws) was (scene over fare) a.goal.now a.from.point a.from.cost a.channel _ (λ q. ne (same_Some _ _ (sym c.requires.entered ∙ q))) left (sym c.is_known.ensures ∙ c.if-not-is_known.false))
    (λ e goes h. h.0)
