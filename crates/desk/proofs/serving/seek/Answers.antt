use Rattle.std.proofs.lemmas.Result.{err_from_is_err_and}
use Rattle.network.specs.Net.{net}
use Rattle.book.specs.State.{tables}
use Rattle.desk.specs.Replies.{lit_text, price_text, book_said}
use Rattle.desk.proofs.Called.{lit_called, priced_called, tried_called, refused_said, found_said}
use Rattle.desk.proofs.serving.seek.Goals as goal

pub returns-in_err-cost-in-Light-clause-called : goal.returns-in_err-cost-in-Light-clause-called
returns-in_err-cost-in-Light-clause-called c =
    let p = err_from_is_err_and c.from_residual.result c.from_residual.ensures.1 in
    lit_called (net c.args.network.now) _ (tables c.args.book.now) (tables c.light_by_kind.new.book) c.args.ticket c.light_by_kind.result (book_said c.from_residual.result) c.in-Light.order c.in-Light.is
    (refused_said (lit_text c.in-Light.order.circuit) _ _ _ _ p.1 p.2 c.in_err-cost-in-Light.was) c.light_by_kind.ensures.answer

pub returns-in_ok-cost-in-Light-clause-called : goal.returns-in_ok-cost-in-Light-clause-called
returns-in_ok-cost-in-Light-clause-called c =
    lit_called (net c.args.network.now) _ (tables c.args.book.now) (tables c.light_by_kind.new.book) c.args.ticket c.light_by_kind.result _ c.in-Light.order c.in-Light.is
    (found_said (lit_text c.in-Light.order.circuit) _ _ c.in_ok-cost-in-Light.was) c.light_by_kind.ensures.answer

pub returns-in_err-cost-in-Quote-clause-called : goal.returns-in_err-cost-in-Quote-clause-called
returns-in_err-cost-in-Quote-clause-called c =
    let p = err_from_is_err_and c.from_residual-in_err-cost-in-Quote.result c.from_residual-in_err-cost-in-Quote.ensures.1 in
    priced_called (net c.args.network.now) _ (tables c.args.book.now) (tables c.price_by_kind.new.book) c.args.ticket c.price_by_kind.result (book_said c.from_residual-in_err-cost-in-Quote.result)
    (refused_said price_text _ _ _ _ p.1 p.2 c.in_err-cost-in-Quote.was) c.price_by_kind.ensures.tables c.in-Quote.order c.in-Quote.is c.price_by_kind.ensures.answer

pub returns-in_ok-cost-in-Quote-clause-called : goal.returns-in_ok-cost-in-Quote-clause-called
returns-in_ok-cost-in-Quote-clause-called c =
    priced_called (net c.args.network.now) _ (tables c.args.book.now) (tables c.price_by_kind.new.book) c.args.ticket c.price_by_kind.result _
    (found_said price_text _ _ c.in_ok-cost-in-Quote.was) c.price_by_kind.ensures.tables c.in-Quote.order c.in-Quote.is c.price_by_kind.ensures.answer

pub returns-in_err-cost-in-Trial-clause-called : goal.returns-in_err-cost-in-Trial-clause-called
returns-in_err-cost-in-Trial-clause-called c =
    let p = err_from_is_err_and c.from_residual-in_err-cost-in-Trial.result c.from_residual-in_err-cost-in-Trial.ensures.1 in
    tried_called (net c.args.network.now) _ (tables c.args.book.now) (tables c.try_by_kind.new.book) c.args.ticket c.try_by_kind.result (book_said c.from_residual-in_err-cost-in-Trial.result)
    (refused_said price_text _ _ _ _ p.1 p.2 c.in_err-cost-in-Trial.was) c.try_by_kind.ensures.tables c.in-Trial.trial c.in-Trial.is c.try_by_kind.ensures.answer

pub returns-in_ok-cost-in-Trial-clause-called : goal.returns-in_ok-cost-in-Trial-clause-called
returns-in_ok-cost-in-Trial-clause-called c =
    tried_called (net c.args.network.now) _ (tables c.args.book.now) (tables c.try_by_kind.new.book) c.args.ticket c.try_by_kind.result _
    (found_said price_text _ _ c.in_ok-cost-in-Trial.was) c.try_by_kind.ensures.tables c.in-Trial.trial c.in-Trial.is c.try_by_kind.ensures.answer
