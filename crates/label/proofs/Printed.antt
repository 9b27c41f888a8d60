-- A number of 32 bits, printed with zeros up to eight hexadecimal digits.
use Rattle.std.specs.Fmt.{digits, digits_onto, digit_glyph, padded_integral, format_spec, char_count, shown_prefix, radix_prefix}
use Rattle.std.specs.Option.{option_map}
use Rattle.std.proofs.Common.{◌≡◌, ℕ, zero, suc, ◌+◌, ◌-◌, ◌*◌, ◌/◌, ◌%◌, ◌^◌, ◌<◌, true, false, List, [], ◌∷◌, ◌++◌, length, replicate, Some, Option, ◌==◌, refl, sym, ap, ◌∙◌, inl, inr, arith}
use Rattle.std.proofs.Math.Nat.{pow-suc, sub-zero, div-div-eq-div-mul, div-one}
use Rattle.std.proofs.lemmas.Bool.{cases_lt}
use Rattle.std.proofs.lemmas.Bool.Decides.{nat_tests}
use Rattle.std.proofs.lemmas.List.{append-nil}
use Rattle.label.specs.Texts.{label_text}

-- the last k digits of n, before what is written
abbrev last_digits : ℕ → ℕ → List ℕ → List ℕ
last_digits zero n written = written
last_digits (suc k) n written = last_digits k (n / 16) (digit_glyph true (n % 16) ∷ written)

zeros_last : (k : ℕ) (ds : List ℕ) → replicate k 48 ++ 48 ∷ ds ≡ 48 ∷ (replicate k 48 ++ ds)
zeros_last zero ds = refl
zeros_last (suc k) ds = ap (λ xs. 48 ∷ xs) (zeros_last k ds)

-- of 0 they are zeros
last_zeros : (k : ℕ) (written : List ℕ) → last_digits k 0 written ≡ replicate k 48 ++ written
last_zeros zero written = refl
last_zeros (suc k) written = last_zeros k (48 ∷ written) ∙ zeros_last k written

-- the digits of n before what is written, with zeros before them up to k digits
abbrev filled_up : ℕ → ℕ → ℕ → List ℕ → List ℕ
filled_up k m n written = let ds = digits_onto m 16 true n written in replicate (k + length written - length ds) 48 ++ ds

-- of a number with one digit they are its last k digits
one_digit : (k m n : ℕ) (written : List ℕ) → n < 16 → filled_up (suc k) (suc m) n written ≡ last_digits (suc k) n written
one_digit k m n written one =
    let none : n / 16 ≡ 0 = omega arith in
    let test : (n / 16 == 0) ≡ true = grind (arith, nat_tests) in
    let count : suc k + length written - suc (length written) ≡ k = omega arith in
    rw (test, count, none) (sym (last_zeros k (digit_glyph true (n % 16) ∷ written)))

-- and so of each number with at most k
digits_last : (k m n : ℕ) (written : List ℕ) → n < 16 ^ suc k → k < m → filled_up (suc k) m n written ≡ last_digits (suc k) n written
digits_last k zero n written low more = absurd (omega arith)
digits_last zero (suc m) n written low more = one_digit zero m n written (omega arith)
digits_last (suc k) (suc m) n written low more =
    elim (cases_lt n 16) [
      | inl one ↦ one_digit (suc k) m n written one
      | inr long ↦
          let d = digit_glyph true (n % 16) in
          let test : (n / 16 == 0) ≡ false = grind (arith, nat_tests) in
          let power : 16 ^ suc (suc k) ≡ 16 ^ suc k * 16 = pow-suc 16 (suc k) in
          let fewer : n / 16 < 16 ^ suc k = omega arith in
          let count : suc (suc k) + length written ≡ suc k + suc (length written) = omega arith in
          rw (test, count) (digits_last k m (n / 16) (d ∷ written) fewer (omega arith))
    ]

-- what is printed of a number with these digits
zeros_before : (ds : List ℕ) → padded_integral (format_spec 32 0 4 8 (2 ^ 64 - 1)) false [] ds ≡ replicate (8 - length ds) 48 ++ ds
unfolding padded_integral char_count
zeros_before ds = simp (sub-zero, append-nil)

eight : (n : ℕ) → last_digits 8 n [] ≡ label_text n
eight n = simp (div-div-eq-div-mul, div-one)

eight_digits : (n : ℕ) → n < 2 ^ 32 → padded_integral (format_spec 32 0 4 8 (2 ^ 64 - 1)) false [] (digits 16 true n) ≡ label_text n
eight_digits n low = zeros_before (digits 16 true n) ∙ (along 64 (digits 16 true n) (omega arith) (unfold digits in refl) ∙ eight n)
  where
    along : (m : ℕ) (ds : List ℕ) → 7 < m → ds ≡ digits_onto m 16 true n [] → replicate (8 - length ds) 48 ++ ds ≡ last_digits 8 n []
    along m ds more e = rw e (digits_last 7 m n [] (omega arith) more)

-- what is printed of n with these options
pub printed : (base n : ℕ) (text : Option (List ℕ)) (s : _) → text ≡ Some (digits 16 true n) → s ≡ format_spec 32 0 4 8 (2 ^ 64 - 1) → n < 2 ^ 32
    → option_map (padded_integral s false (shown_prefix s (radix_prefix base))) text ≡ Some (label_text n)
printed base n text s e f low = rw (f, e, eight_digits n low)
