-- A line of bytes: its runs, its words, and what is judged of it. Places are counted from 1.
use Rattle.std.specs.Prelude.{ℕ, zero, suc, ◌+◌, ◌-◌, ◌*◌, Bool, true, cond, not, ◌&&◌, ◌||◌, List, [], ◌∷◌, ◌++◌, length, fold, ◌==◌, nat_le, nat_lt, slice_index, slice_range}
use Rattle.std.specs.List.{range_with_len, flat_map}
use Rattle.fault.specs.Judging.{Judgement, judge}
use Rattle.fault.specs.declared.ticket.WordFault.{WordFault}
use Rattle.fault.specs.declared.ticket.WordFault.TheVariants.{Space, Foreign, Large}
use Rattle.ticket.specs.declared.word.Word.{Word}
use Rattle.ticket.specs.declared.word.Word.TheVariants.{Number, Name}

abbrev pub is_digit : ℕ → Bool
is_digit b = nat_le 48 b && nat_le b 57

abbrev pub is_letter : ℕ → Bool
is_letter b = nat_le 65 b && nat_le b 90

abbrev pub is_space : ℕ → Bool
is_space b = b == 32

-- a byte of a word
abbrev pub of_word : ℕ → Bool
of_word b = is_digit b || is_letter b

-- byte i of a line; past its end 0, which no word has
abbrev pub byte : List ℕ → ℕ → ℕ
byte bs i = slice_index bs i

-- neither empty nor over 80 bytes
abbrev pub of_length : List ℕ → Bool
of_length bs = nat_le 1 (length bs) && nat_le (length bs) 80

-- where the run of bytes of a word that ends before i starts
abbrev pub run_start : List ℕ → ℕ → ℕ
run_start bs zero = 0
run_start bs (suc i) = cond (of_word (byte bs i)) (run_start bs i) (suc i)

-- the bytes from s on, up to e
abbrev pub part : List ℕ → ℕ → ℕ → List ℕ
part bs s e = slice_range bs s e

abbrev pub run : List ℕ → ℕ → List ℕ
run bs i = part bs (run_start bs i) i

-- the run before i does not go on with byte i
abbrev pub ends : List ℕ → ℕ → Bool
ends bs i = not (of_word (byte bs i))

abbrev pub digit : ℕ → ℕ
digit b = b - 48

abbrev pub value : List ℕ → ℕ
value digits = fold (λ v b. v * 10 + digit b) 0 digits

-- a number over five digits or above 65,535
abbrev pub too_large : List ℕ → Bool
too_large w = is_digit (slice_index w 0) && (nat_lt 5 (length w) || nat_lt 65535 (value w))

-- a space that is first, last or after a space
abbrev pub idle : List ℕ → ℕ → Bool
idle bs i = is_space (byte bs i) && (i == 0 || i + 1 == length bs || is_space (byte bs (i - 1)))

-- a letter after a digit, or a digit after a letter
abbrev pub mixed : List ℕ → ℕ → Bool
mixed bs i = nat_lt 0 i && (is_digit (byte bs (i - 1)) && is_letter (byte bs i) || is_letter (byte bs (i - 1)) && is_digit (byte bs i))

-- what is judged of a run where it ends, and of a byte
abbrev pub of_run : List ℕ → ℕ → Judgement WordFault
of_run bs i = judge (not (ends bs i && too_large (run bs i))) (Large (run_start bs i + 1))

abbrev pub of_byte : List ℕ → ℕ → List (Judgement WordFault)
of_byte bs i =
    judge (not (idle bs i)) (Space (i + 1)) ∷ judge (is_space (byte bs i) || of_word (byte bs i)) (Foreign (i + 1)) ∷ judge (not (mixed bs i)) (Foreign (i + 1)) ∷ []

-- the run that ends before a byte is judged before it
abbrev pub judged_at : List ℕ → ℕ → List (Judgement WordFault)
judged_at bs i = of_run bs i ∷ of_byte bs i

-- byte by byte, and the run that ends with the line
abbrev pub of_line : List ℕ → List (Judgement WordFault)
of_line bs = flat_map (judged_at bs) (range_with_len 0 (length bs)) ++ of_run bs (length bs) ∷ []

-- a word, its place and its bytes
pub data Token : Type 0 where
  number : ℕ → List ℕ → Token
  name : ℕ → List ℕ → Token

abbrev pub token_of : Word → Token
token_of (Number p) = number p.at p.bytes.now
token_of (Name p) = name p.at p.bytes.now

abbrev pub place : Token → ℕ
place (number at w) = at
place (name at w) = at

abbrev pub token : ℕ → List ℕ → Token
token at w = cond (is_digit (slice_index w 0)) (number at w) (name at w)

-- a number of at most five digits, at most 65,535; or a name
abbrev pub small : Token → Bool
small (number at w) = nat_le (length w) 5 && nat_le (value w) 65535
small (name at w) = true

-- the word from s on, up to e, where there is a byte
abbrev pub word_from : List ℕ → ℕ → ℕ → List Token
word_from bs s e = cond (nat_lt s e) (token (s + 1) (part bs s e) ∷ []) []

-- the word that ends before i, where one does
abbrev pub word_at : List ℕ → ℕ → List Token
word_at bs i = cond (ends bs i) (word_from bs (run_start bs i) i) []

abbrev pub words : List ℕ → List Token
words bs = flat_map (word_at bs) (range_with_len 0 (length bs + 1))
