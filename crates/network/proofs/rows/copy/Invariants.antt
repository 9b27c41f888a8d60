use Rattle.std.proofs.Common.{◌≡◌, ◌++◌, take, drop}
use Rattle.network.proofs.rows.copy.Given as goal

abbrev pub invariant-loop-place : goal.invariant-loop-place
invariant-loop-place l = l.row ≡ take l.place l.numbers ++ drop l.place l.initial.row
