-- Where values stop.
use Rattle.std.specs.Prelude.{ℕ}

-- the largest number of 32 bits
abbrev pub largest_sum : ℕ
largest_sum = 4294967295

-- the largest number of 16 bits
abbrev pub largest_count : ℕ
largest_count = 65535
