-- What the desk does with a whole input, in lines.
use Rattle.std.specs.Prelude.{◌≡◌, ℕ, false, cond, List, [], ◌∷◌, ◌++◌, ◌==◌}
use Rattle.std.specs.List.{AllByRecursion, concat as whole}
use Rattle.network.specs.declared.counts.Counts.{Counts}
use Rattle.network.specs.Net.{Net}
use Rattle.book.specs.State.{Tables}
use Rattle.desk.specs.Runs.{Then, Runs}
use Rattle.desk.specs.Feeding.{Desk, desk, Replies, Feeds, Ends}

-- a byte, and then the rest of the line that it stands in and the lines after that
abbrev pub onto : ℕ → List (List ℕ) → List (List ℕ)
onto b [] = (b ∷ []) ∷ []
onto b (line ∷ more) = (b ∷ line) ∷ more

-- the lines of an input: each byte 10 ends one, and the last may lack it
abbrev pub lines : List ℕ → List (List ℕ)
lines [] = []
lines (b ∷ bs) = cond (b == 10) ([] ∷ lines bs) (onto b (lines bs))

-- no byte here ends a line
abbrev pub Unbroken : List ℕ → Type 0
Unbroken bs = AllByRecursion (λ b. (b == 10) ≡ false) bs

-- what stands before the first byte 10 is the first line, and the rest has the others; where there
-- is no byte 10, all bytes are one line, or none
pub record SplitAtTens : Type 0 where
  pub first : (line rest : List ℕ) → Unbroken line → lines (line ++ 10 ∷ rest) ≡ line ∷ lines rest
  pub last : (b : ℕ) (line : List ℕ) → Unbroken (b ∷ line) → lines (b ∷ line) ≡ (b ∷ line) ∷ []
  pub none : lines [] ≡ []

-- the input comes in these chunks, and then ends
abbrev pub Hears : Net → Counts → Desk → List (List ℕ) → List ℕ → Desk → Type 0
Hears w n s chunks = Then (λ s. Runs (Feeds w n) s chunks) (Ends w n) s

-- the lines are replied to, one after the other, and no line is being read then
pub record ByLines (w : Net) (n : Counts) (t : Tables) (ls : List (List ℕ)) (out : List ℕ) (d : Desk) : Type 0 where
  pub replied : Runs (Replies w n) t ls out d.tables
  pub emptied : d.line ≡ []

-- an input that comes to an empty line is answered line by line, however it is cut into chunks
-- and however long its lines are
abbrev pub AnsweredByLines : Type 0
AnsweredByLines =
    (w : Net) (n : Counts) (t : Tables) (chunks : List (List ℕ)) (out : List ℕ) (d : Desk) → Hears w n (desk t []) chunks out d → ByLines w n t (lines (whole chunks)) out d
