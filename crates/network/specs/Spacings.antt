-- How far channels lie apart, and the codes that tell it.
use Rattle.std.specs.Prelude.{ℕ, ◌≤◌, Bool, cond, ◌&&◌, Ok, Err, Result, ◌==◌, nat_le}
use Rattle.network.specs.declared.spacing.Spacing.{Spacing}
use Rattle.network.specs.declared.spacing.Spacing.TheVariants.{Ghz100, Ghz50, Ghz25, Ghz12_5}
use Rattle.network.specs.declared.spacing.UnknownCode.{UnknownCode}

-- a spacing code is 1 to 4
abbrev pub Spaced : ℕ → Type 0
Spaced code = (1 ≤ code) × (code ≤ 4)

abbrev pub coded : ℕ → Bool
coded code = nat_le 1 code && nat_le code 4

-- and means 100, 50, 25 or 12.5 GHz
abbrev pub code_of : Spacing → ℕ
code_of Ghz100 = 1
code_of Ghz50 = 2
code_of Ghz25 = 3
code_of Ghz12_5 = 4

-- what a code means where it is one; what it means elsewhere is never told
abbrev pub spacing_by : ℕ → Spacing
spacing_by code = cond (code == 1) Ghz100 (cond (code == 2) Ghz50 (cond (code == 3) Ghz25 Ghz12_5))

-- a code's spacing, or the code where it is none
abbrev pub decoded : ℕ → Result Spacing UnknownCode
decoded code = cond (coded code) (Ok (spacing_by code)) (Err (record { 0 = code }))
