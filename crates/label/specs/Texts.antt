-- How a label is printed.
use Rattle.std.specs.Prelude.{ℕ, ◌/◌, ◌%◌, ◌^◌, true, List, [], ◌∷◌, map}
use Rattle.std.specs.Fmt.{digit_glyph}

-- the hexadecimal digit at a place, 0 to 9 or A to F
abbrev pub digit_at : ℕ → ℕ → ℕ
digit_at bits place = digit_glyph true (bits / 16 ^ place % 16)

-- exactly eight digits, from the high end
abbrev pub label_text : ℕ → List ℕ
label_text bits = map (digit_at bits) (7 ∷ 6 ∷ 5 ∷ 4 ∷ 3 ∷ 2 ∷ 1 ∷ 0 ∷ [])
