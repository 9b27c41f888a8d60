use Rattle.desk.proofs.Answered.{answered_by_lines}
use Rattle.station.proofs.run.Goals as goal

pub returns-in_err-bytes : goal.returns-in_err-bytes
returns-in_err-bytes c = answered_by_lines

pub returns : goal.returns
returns c = answered_by_lines
