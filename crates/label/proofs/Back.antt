-- What is written reads back as told, and a fault is answered exactly where it is due.
use Rattle.std.proofs.Common.{◌≡◌, ℕ, ◌<◌, ◌≤◌, Bool, true, ℤ, Result, ap, ◌∙◌, arith, w16, SFits, to_z, of_z}
use Rattle.std.proofs.lemmas.Int.{to_z-of_z, ints}
use Rattle.std.proofs.lemmas.Bool.Decides.{nat_tests}
use Rattle.fault.specs.declared.label.LabelFault.{LabelFault}
use Rattle.network.specs.Limits.{in_range}
use Rattle.network.specs.Spacings.{coded, code_of, spacing_by}
use Rattle.label.specs.declared.Label.{Label}
use Rattle.label.specs.Fields.{part, grid, spacing, identifier, number}
use Rattle.label.specs.Labels.{number_in, value_or_fault, write, label_bits, ReadsBack, RefusesExactly}

-- an answer that is the value or the first fault is each fault exactly where it is due
pub refuses_exactly : {A : Type 0} (is_right : LabelFault → Bool) (x : A) (r : Result A LabelFault) → r ≡ value_or_fault is_right x → RefusesExactly is_right r
refuses_exactly is_right x r e = grind (arith, nat_tests)

-- a code's spacing has that code
code_back : (code : ℕ) → coded code ≡ true → code_of (spacing_by code) ≡ code
code_back code e = grind (arith, nat_tests)

-- the fields of what is written
parts : (code : ℕ) (n : ℤ) → coded code ≡ true → in_range n ≡ true → (part grid (label_bits code n) ≡ 1) × (part spacing (label_bits code n) ≡ code) × (part identifier (label_bits code n) ≡ 0) × (number_in (label_bits code n) ≡ n)
parts code n c r =
    let f : SFits w16 n = grind (arith, ints, nat_tests) in
    let k : (1 ≤ code) × (code ≤ 4) = grind (arith, nat_tests) in
    let b : of_z w16 n < 65536 = omega (arith, ints) in
    let m : part number (label_bits code n) ≡ of_z w16 n = omega arith in
    (omega arith, omega arith, omega arith, ap (to_z w16) m ∙ to_z-of_z w16 n f)

pub reads_back : (code : ℕ) (n : ℤ) (r : Result Label LabelFault) → r ≡ write code n → ReadsBack code n r
reads_back code n r q l e =
    let a : (coded code ≡ true) × (in_range n ≡ true) × (l.bits ≡ label_bits code n) = grind (arith, nat_tests) in
    let p = parts code n a.0 a.1 in
    (rw a.2 (grind (arith, nat_tests)), code_back code a.0)
