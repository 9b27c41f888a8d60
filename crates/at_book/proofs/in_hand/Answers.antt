use Rattle.std.proofs.Common.{sym, ap, ◌∙◌, Err}
use Rattle.std.proofs.lemmas.Result.{err_from_is_err_and}
use Rattle.at_book.specs.Hands.{hand_of}
use Rattle.at_book.proofs.in_hand.Goals as goal

pub returns-in_err-offer-clause-call : goal.returns-in_err-offer-clause-call
returns-in_err-offer-clause-call c =
    let p = err_from_is_err_and c.from_residual.result c.from_residual.ensures.1 in
    (c.offer.result, c.offer.ensures.call, p.1 ∙ ap Err p.2 ∙ sym (ap hand_of c.in_err-offer.was))

pub returns-clause-call : goal.returns-clause-call
returns-clause-call c = (c.offer.result, c.offer.ensures.call, sym (ap hand_of c.in_ok-offer.was))
