use Rattle.std.proofs.Common.{length, refl}
use Rattle.std.proofs.lemmas.Result.{err_from_is_err_and}
use Rattle.network.specs.declared.counts.Counts.{Counts}
use Rattle.network.specs.Net.{Net, net}
use Rattle.book.specs.State.{Tables, tables}
use Rattle.book.specs.Answering.{scene_in}
use Rattle.book.specs.Changes.{path_in}
use Rattle.book.proofs.Ordered.{answers_at, no_offer, offer_early, offer_late, offer_made, offer_can}
use Rattle.book.proofs.Numbered.{offers_numbered}
use Rattle.book.proofs.Book.offer.Goals as goal

pub returns-in_err-judge_order-clause-call : goal.returns-in_err-judge_order-clause-call
returns-in_err-judge_order-clause-call g c =
    let w : Net = net c.args.network.now in
    let x : Tables = tables c.args.self.now in
    let n : Counts = c.args.self.now.extent.counts in
    let p = err_from_is_err_and c.from_residual.result c.from_residual.ensures.1 in
    record {
      answer = offer_early g.K.Kind.ops (scene_in w x) c.args.self.now.mark c.args.circuit c.args.from c.args.to (path_in n x c.args.circuit) n w.counts x (length c.args.labels.now) c.judge_order.result _ _ _ c.judge_order.ensures c.in_err-judge_order.was p.2 p.1;
      change = no_offer n c.args.circuit c.args.from c.args.to (path_in n x c.args.circuit) x c.from_residual.result _ p.1;
    }

pub returns-in_err-found-clause-call : goal.returns-in_err-found-clause-call
returns-in_err-found-clause-call g c =
    let w : Net = net c.args.network.now in
    let x : Tables = tables c.args.self.now in
    let n : Counts = c.args.self.now.extent.counts in
    let p = err_from_is_err_and c.from_residual-in_err-found.result c.from_residual-in_err-found.ensures.1 in
    record {
      answer = offer_late g.K.Kind.ops (scene_in w x) c.args.self.now.mark c.args.circuit c.args.from c.args.to (path_in n x c.args.circuit) n w.counts x (length c.args.labels.now) c.judge_order.result _ c.find.new.labels c.find.result _ _ _
          c.judge_order.ensures c.in_ok-judge_order.was
          (answers_at g.K.Kind.ops (scene_in w x) w.counts (length c.args.labels.now) _ _ _ _ c.find.new.labels c.find.result c.from.ensures c.from-2.ensures c.find.ensures.answer)
          c.in_err-found.was p.2 p.1;
      change = no_offer n c.args.circuit c.args.from c.args.to (path_in n x c.args.circuit) x c.from_residual-in_err-found.result _ p.1;
    }

pub returns-clause-call : goal.returns-clause-call
returns-clause-call g c =
    let w : Net = net c.args.network.now in
    let x : Tables = tables c.args.self.now in
    let n : Counts = c.args.self.now.extent.counts in
    offer_made g.K.Kind.ops w n c.args.self.now.mark c.args.circuit c.args.from c.args.to (length c.args.labels.now) x (tables c.take-steps.new.self) c.judge_order.result _ c.find.new.labels c.find.result c.in_ok-found.found _
    c.judge_order.ensures c.in_ok-judge_order.was
    (answers_at g.K.Kind.ops (scene_in w x) w.counts (length c.args.labels.now) _ _ _ _ c.find.new.labels c.find.result c.from.ensures c.from-2.ensures c.find.ensures.answer)
    c.in_ok-found.was c.take-steps.ensures.change c.take-steps.ensures.path c.take-steps.ensures.steps refl c.take-steps.ensures.kept.mark refl

pub returns-in_err-judge_order-clause-numbered : goal.returns-in_err-judge_order-clause-numbered
returns-in_err-judge_order-clause-numbered g c = λ k. offers_numbered k g.K.Kind.ops _ _ _ _ _ _ _ _ _ _ (returns-in_err-judge_order-clause-call g c)

pub returns-in_err-found-clause-numbered : goal.returns-in_err-found-clause-numbered
returns-in_err-found-clause-numbered g c = λ k. offers_numbered k g.K.Kind.ops _ _ _ _ _ _ _ _ _ _ (returns-in_err-found-clause-call g c)

pub returns-clause-numbered : goal.returns-clause-numbered
returns-clause-numbered g c = λ k. offers_numbered k g.K.Kind.ops _ _ _ _ _ _ _ _ _ _ (returns-clause-call g c)

pub take-steps-requires : goal.take-steps-requires
take-steps-requires g c =
    let w : Net = net c.args.network.now in
    let x : Tables = tables c.args.self.now in
    offer_can g.K.Kind.ops w c.args.circuit c.args.from c.args.to c.args.self.now.extent.counts x (length c.args.labels.now) c.judge_order.result _ c.find.new.labels c.find.result _
    c.judge_order.ensures
    c.in_ok-judge_order.was
    (answers_at g.K.Kind.ops (scene_in w x) w.counts (length c.args.labels.now) _ _ _ _ c.find.new.labels c.find.result c.from.ensures c.from-2.ensures c.find.ensures.answer)
    c.in_ok-found.was
