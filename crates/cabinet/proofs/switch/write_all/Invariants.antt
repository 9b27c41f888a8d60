use Rattle.std.proofs.Common.{◌≡◌, ◌++◌, map, take, drop}
use Rattle.cabinet.specs.Switches.{switch}
use Rattle.cabinet.proofs.switch.write_all.Given as goal

abbrev pub invariant-loop-i : goal.invariant-loop-i
invariant-loop-i l = l.switches ≡ map switch (take l.i l.settings) ++ drop l.i l.initial.switches
