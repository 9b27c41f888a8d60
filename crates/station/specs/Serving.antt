-- What the console writes in reply to what it reads. Of a reader and a writer whose bytes are known: `before` is to be read as a run begins and `left` as it ends; the writer has `held` as it begins and `after` as it ends.
use Rattle.std.specs.Prelude.{◌≡◌, ℕ, List, [], ◌∷◌, ◌++◌, Ok, Option, MatchOption}
use Rattle.std.specs.Io.KnownBytes.{Appends, Consumes, IsAtEnd}
use Rattle.fault.specs.Judging.{first}
use Rattle.fault.specs.Reports.{of_load}
use Rattle.fault.specs.declared.plan.LoadFault.{LoadFault}
use Rattle.network.specs.declared.counts.Counts.{Counts}
use Rattle.network.specs.Net.{Net}
use Rattle.plan.specs.Plan.{load_faults, read}
use Rattle.plan.specs.Telling.{tells}
use Rattle.book.specs.Opening.{room, opened}
use Rattle.book.specs.State.{Tables}
use Rattle.desk.specs.Inputs.{lines}
use Rattle.desk.specs.Feeding.{Replies}
use Rattle.desk.specs.Replies.{no_plan}
use Rattle.desk.specs.Runs.{Runs}

-- the input is read to its end, and what is written are the replies to its lines, in order: tables x stood before, and y stand then
pub record Serves (w : Net) (n : Counts) (x : Tables) (before left held after : Option (List ℕ)) (y : Tables) : Type 0 where
  pub input : List ℕ
  pub out : List ℕ
  pub replied : Runs (Replies w n) x (lines input) out y
  pub read : Consumes before left input
  pub ended : IsAtEnd left
  pub written : Appends held after out

-- the same at a book of the network that has just been opened, all free and open, over tables that have room
pub record Works (w : Net) (before left held after : Option (List ℕ)) : Type 0 where
  pub lent : Tables
  pub then : Tables
  pub fits : room w.counts lent ≡ Ok tt
  pub serves : Serves w w.counts (opened w.counts lent) before left held after then

-- the plan is refused: nothing is read, and its report is written
pub record Refuses (f : LoadFault) (before left held after : Option (List ℕ)) : Type 0 where
  pub unread : left ≡ before
  pub written : Appends held after (no_plan (of_load f) ++ 10 ∷ [])

-- the first fault of a plan is told, where it is loaded into tables of such lengths; a plan with none tells the network at which the input is answered
abbrev pub Converses : List ℕ → ℕ → ℕ → Option (List ℕ) → Option (List ℕ) → Option (List ℕ) → Option (List ℕ) → Type 0
Converses bs tariffs converters before left held after =
    MatchOption (first (load_faults bs tariffs converters)) (Works (tells (read bs)) before left held after) (λ f. Refuses f before left held after)
