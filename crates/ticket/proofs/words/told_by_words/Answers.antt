use Rattle.std.proofs.Common.{◌≡◌, true, sym, rules}
use Rattle.std.proofs.lemmas.Result.{err_from_is_err_and}
use Rattle.ticket.specs.Lines.{of_length}
use Rattle.ticket.proofs.Reading.{ticket_faulty, ticket_sound}
use Rattle.ticket.proofs.words.told_by_words.Goals as goal

pub returns-in_err-cut : goal.returns-in_err-cut
returns-in_err-cut c =
    let p = err_from_is_err_and c.from_residual.result c.from_residual.ensures.1 in
    let sound : of_length c.args.line.now ≡ true = search rules in
    rw (p.1, p.2) (sym (ticket_faulty c.args.line.now _ sound c.in_err-cut.ensures))

pub returns : goal.returns
returns c = search (rules, ticket_sound)
