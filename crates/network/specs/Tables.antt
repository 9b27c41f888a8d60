-- Tables that a caller lends: the entries that are needed are written, those beyond stay.
use Rattle.std.specs.Prelude.{ℕ, ◌+◌, min, List, ◌++◌, map, length, take, drop, replicate}
use Rattle.std.specs.List.{range_with_len}

-- the table with v in its first n entries
abbrev pub filled : {A : Type 0} → ℕ → A → List A → List A
filled n v table = replicate (min n (length table)) v ++ drop (min n (length table)) table

-- the table with f i in each entry i below n
abbrev pub tabled : {A : Type 0} → ℕ → (ℕ → A) → List A → List A
tabled n f table = map f (range_with_len 0 n) ++ drop n table

-- the table with a row from a place on
abbrev pub laid : {A : Type 0} → ℕ → List A → List A → List A
laid start row table = take start table ++ row ++ drop (start + length row) table
