use Rattle.ticket.proofs.Cutting.{IsBefore}
use Rattle.ticket.proofs.words.Words.cut.Given as goal

abbrev pub invariant-loop-i : goal.invariant-loop-i
invariant-loop-i l = IsBefore l.line l.self l.start l.i
