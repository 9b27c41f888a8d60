-- Numbers of several bytes: the high byte comes first.
use Rattle.std.specs.Prelude.{ℕ, ◌+◌, ◌*◌, Bool, ◌&&◌, List, ℤ, nat_le, slice_index}
use Rattle.std.specs.Int.{w16}
use Rattle.std.proofs.Common.{to_z}

abbrev pub byte : List ℕ → ℕ → ℕ
byte bs i = slice_index bs i

abbrev pub short : List ℕ → ℕ → ℕ
short bs i = byte bs i * 256 + byte bs (i + 1)

abbrev pub wide : List ℕ → ℕ → ℕ
wide bs i = byte bs i * 16777216 + byte bs (i + 1) * 65536 + byte bs (i + 2) * 256 + byte bs (i + 3)

-- two bytes as a number with a sign
abbrev pub signed : List ℕ → ℕ → ℤ
signed bs i = to_z w16 (short bs i)

abbrev pub among : ℕ → ℕ → ℕ → Bool
among low high x = nat_le low x && nat_le x high
