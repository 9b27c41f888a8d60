-- The plan's four sections, and what a sound section is.
use Rattle.std.specs.Prelude.{ℕ, ◌+◌, ◌*◌, List, [], ◌∷◌, length, take, drop, ◌==◌, nat_le}
use Rattle.fault.specs.Judging.{Judgement, judge}
use Rattle.fault.specs.declared.plan.SectionFault.{SectionFault}
use Rattle.fault.specs.declared.plan.SectionFault.TheVariants.{Early, Length, Beyond}
use Rattle.plan.specs.declared.header.Header.{Header}
use Rattle.plan.specs.Bytes.{wide}

-- a pair of the header has where a section begins, and then its length
abbrev pub start : List ℕ → ℕ → ℕ
start bs pair = wide bs pair

abbrev pub extent : List ℕ → ℕ → ℕ
extent bs pair = wide bs (pair + 4)

abbrev pub end : List ℕ → ℕ → ℕ
end bs pair = start bs pair + extent bs pair

-- the bytes of a section
abbrev pub section : List ℕ → ℕ → List ℕ
section bs pair = take (extent bs pair) (drop (start bs pair) bs)

-- where the pairs of the four sections stand in the header
abbrev pub numbers_pair : ℕ
numbers_pair = 8

abbrev pub spans_pair : ℕ
spans_pair = 16

abbrev pub tariffs_pair : ℕ
tariffs_pair = 24

abbrev pub converters_pair : ℕ
converters_pair = 32

-- how many bytes each section has
abbrev pub numbers_size : Header → ℕ
numbers_size h = 2 * h.channels

abbrev pub spans_size : Header → ℕ
spans_size h = 2 * h.spans

abbrev pub tariffs_size : Header → ℕ
tariffs_size h = 2 * (h.spans * h.channels)

abbrev pub converters_size : Header → ℕ
converters_size h = 5 * h.converters

-- a section begins at or after a floor, has its size, and ends within the file
abbrev pub pair_faults : List ℕ → ℕ → ℕ → ℕ → List (Judgement SectionFault)
pair_faults bs pair floor size =
    judge (nat_le floor (start bs pair)) (Early pair)
    ∷ judge (extent bs pair == size) (Length pair)
    ∷ judge (nat_le (end bs pair) (length bs)) (Beyond pair)
    ∷ []
