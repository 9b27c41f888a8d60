-- Numbers put into fields, and fields joined by `|`.
use Rattle.std.proofs.Common.{◌≡◌, ℕ, ◌+◌, ◌*◌, ◌≤◌, ◌%◌, ◌^◌, bit_or, arith}
use Rattle.std.proofs.Math.Nat.{mod-lt}
use Rattle.std.proofs.Math.Pow.{shl_exact}
use Rattle.std.proofs.lemmas.Nat.{or_shifted, pow_pos}
use Rattle.label.specs.Fields.{field_bits, grid, spacing, identifier, number}

-- a number that is cut to its field loses nothing where it is shifted to its place
pub shifted_whole : (at width x : ℕ) → width + at ≤ 32 → x % 2 ^ width * 2 ^ at % 2 ^ 32 ≡ x % 2 ^ width * 2 ^ at
shifted_whole at width x inside = shl_exact width at 32 (mod-lt x (pow_pos width)) inside

pub joined : (g s n : ℕ) → bit_or (field_bits grid g) (bit_or (field_bits spacing s) (field_bits number n)) ≡ field_bits grid g + field_bits spacing s + field_bits identifier 0 + field_bits number n
joined g s n =
    let low = or_shifted (s % 2 ^ 4) 25 (field_bits number n) (omega arith) in
    let high = or_shifted (g % 2 ^ 3) 29 (field_bits spacing s + field_bits number n) (omega arith) in
    rw low (omega (arith, high))
