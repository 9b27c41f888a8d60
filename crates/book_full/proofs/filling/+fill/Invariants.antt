use Rattle.std.proofs.Common.{◌-◌}
use Rattle.book_full.proofs.filling.+fill.Given as goal

abbrev pub decreases-fill : goal.decreases-fill
decreases-fill g l = 128 - l.circuit
