use Rattle.std.proofs.Common.{◌≡◌, length}
use Rattle.network.specs.Steps.{distinct}
use Rattle.semilightpath.proofs.path.distinct.Given as goal

abbrev pub invariant-loop-rest : goal.invariant-loop-rest
invariant-loop-rest l = distinct l.rest ≡ distinct l.path

abbrev pub decreases-loop-rest : goal.decreases-loop-rest
decreases-loop-rest l = length l.rest
