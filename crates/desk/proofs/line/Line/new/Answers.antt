use Rattle.desk.proofs.Answered.{answered_by_lines, split_at_tens}
use Rattle.desk.proofs.Served.{refusals_change_nothing}
use Rattle.desk.proofs.line.Line.new.Goals as goal

pub returns-clause-answered : goal.returns-clause-answered
returns-clause-answered c = answered_by_lines

pub returns-clause-split : goal.returns-clause-split
returns-clause-split c = split_at_tens

pub returns-clause-refused : goal.returns-clause-refused
returns-clause-refused c = refusals_change_nothing
