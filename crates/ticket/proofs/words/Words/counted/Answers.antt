use Rattle.std.proofs.Common.{rules}
use Rattle.ticket.proofs.Reading.{surplus}
use Rattle.ticket.proofs.words.Words.counted.Goals as goal

pub returns-in-Some : goal.returns-in-Some
returns-in-Some c = search (rules, surplus)
