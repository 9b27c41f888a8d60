use Rattle.std.proofs.Common.{◌≡◌, ◌+◌, ◌*◌, ◌^◌, ◌≤◌, take}
use Rattle.ticket.specs.Lines.{value}
use Rattle.ticket.proofs.word.number.Given as goal

abbrev pub invariant-loop-byte : goal.invariant-loop-byte
invariant-loop-byte l = (l.total ≡ value (take l.byte-index l.digits)) × (l.total + 23 ≤ 23 * 10 ^ l.byte-index)
