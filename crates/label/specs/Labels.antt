-- What a label tells, and how it is written.
use Rattle.std.specs.Prelude.{◌≡◌, ℕ, ◌+◌, ◌<◌, Bool, true, false, [], ◌∷◌, map, ℤ, pos, ◌+ℤ◌, ◌*ℤ◌, Ok, Err, Result, ◌==◌, unsigned_abs}
use Rattle.std.proofs.Common.{to_z, of_z}
use Rattle.std.specs.Int.{w16}
use Rattle.fault.specs.Judging.{judge, first, unless}
use Rattle.fault.specs.Reports.{of_label}
use Rattle.fault.specs.declared.label.LabelFault.{LabelFault}
use Rattle.fault.specs.declared.label.LabelFault.TheVariants as fault
use Rattle.network.specs.Limits.{in_range}
use Rattle.network.specs.Spacings.{coded, code_of, spacing_by}
use Rattle.network.specs.declared.spacing.Spacing.{Spacing}
use Rattle.network.specs.declared.spacing.Spacing.TheVariants.{Ghz100, Ghz50, Ghz25, Ghz12_5}
use Rattle.label.specs.Fields.{part, field_bits, grid, spacing, identifier, number}
use Rattle.label.specs.declared.Label.{Label}
use Rattle.label.specs.declared.Reading.{Reading}

-- a spacing, in MHz
abbrev pub spacing_of : Spacing → ℕ
spacing_of Ghz100 = 100000
spacing_of Ghz50 = 50000
spacing_of Ghz25 = 25000
spacing_of Ghz12_5 = 12500

-- 193.1 THz + n × spacing, in MHz
abbrev pub centre_of : Spacing → ℤ → ℤ
centre_of s n = pos 193100000 +ℤ n *ℤ pos (spacing_of s)

-- a spacing and a number, with their centre
abbrev pub reading_of : Spacing → ℤ → Reading
reading_of s n = record { spacing = s; n = n; centre = unsigned_abs (centre_of s n) }

-- a label's number n, in two's complement
abbrev pub number_in : ℕ → ℤ
number_in bits = to_z w16 (part number bits)

-- whether the field that a fault speaks of is as it must be
abbrev pub is_sound : ℕ → LabelFault → Bool
is_sound bits fault.Grid = part grid bits == 1
is_sound bits fault.Spacing = coded (part spacing bits)
is_sound bits fault.Identifier = part identifier bits == 0
is_sound bits fault.Number = in_range (number_in bits)

-- the same of what is to be written, whose Grid and Identifier are given
abbrev pub is_writable : ℕ → ℤ → LabelFault → Bool
is_writable code n fault.Grid = true
is_writable code n fault.Spacing = coded code
is_writable code n fault.Identifier = true
is_writable code n fault.Number = in_range n

-- a value where no field is wrong, else the fault of the first that is, from the high end
abbrev pub value_or_fault : {A : Type 0} → (LabelFault → Bool) → A → Result A LabelFault
value_or_fault is_right x = unless (first (map (λ f. judge (is_right f) f) (fault.Grid ∷ fault.Spacing ∷ fault.Identifier ∷ fault.Number ∷ []))) x

abbrev pub read : ℕ → Result Reading LabelFault
read bits = value_or_fault (is_sound bits) (reading_of (spacing_by (part spacing bits)) (number_in bits))

-- Grid 1, the code, Identifier 0 and n
abbrev pub label_bits : ℕ → ℤ → ℕ
label_bits code n = field_bits grid 1 + field_bits spacing code + field_bits identifier 0 + field_bits number (of_z w16 n)

abbrev pub write : ℕ → ℤ → Result Label LabelFault
write code n = value_or_fault (is_writable code n) (record { bits = label_bits code n })

-- a fault is due where its field is wrong and each field of a lower number is right
abbrev pub IsDue : (LabelFault → Bool) → LabelFault → Type 0
IsDue is_right f = (is_right f ≡ false) × ((g : LabelFault) → (of_label g).number < (of_label f).number → is_right g ≡ true)

-- every fault is answered exactly where it is due
abbrev pub RefusesExactly : {A : Type 0} → (LabelFault → Bool) → Result A LabelFault → Type 0
RefusesExactly is_right r = (f : LabelFault) → (r ≡ Err f → IsDue is_right f) × (IsDue is_right f → r ≡ Err f)

-- what is written reads back as told, with the spacing whose code was told
abbrev pub ReadsBack : ℕ → ℤ → Result Label LabelFault → Type 0
ReadsBack code n r = (l : Label) → r ≡ Ok l → (read l.bits ≡ Ok (reading_of (spacing_by code) n)) × (code_of (spacing_by code) ≡ code)

-- what is read is written back bit for bit
abbrev pub WritesBack : Label → Result Reading LabelFault → Type 0
WritesBack l r = (x : Reading) → r ≡ Ok x → write (code_of x.spacing) x.n ≡ Ok l

-- the centre that is read is the number's, and not below 0
abbrev pub IsCentred : Result Reading LabelFault → Type 0
IsCentred r = (x : Reading) → r ≡ Ok x → pos x.centre ≡ centre_of x.spacing x.n
