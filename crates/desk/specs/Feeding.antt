-- What the desk does with the bytes of an input, chunk by chunk.
use Rattle.std.specs.Prelude.{◌≡◌, ℕ, List, [], ◌∷◌, ◌++◌, length, take, ◌==◌, MatchBool, Result, OnOk}
use Rattle.fault.specs.declared.ticket.TicketFault.{TicketFault}
use Rattle.network.specs.declared.counts.Counts.{Counts}
use Rattle.network.specs.Net.{Net}
use Rattle.book.specs.declared.Book.{Book}
use Rattle.book.specs.State.{Tables, tables}
use Rattle.ticket.specs.declared.Ticket.{Ticket}
use Rattle.desk.specs.declared.line.Line.{Line}
use Rattle.desk.specs.Holding.{kept, held}
use Rattle.desk.specs.Runs.{Rests, Runs}
use Rattle.desk.specs.Serving.{Answered, Served}

-- what the desk has at a moment: the book's tables, and what is kept of the line that is being read
pub record Desk : Type 0 where
  pub tables : Tables
  pub line : List ℕ

abbrev pub desk : Tables → List ℕ → Desk
desk t line = record { tables = t; line = line }

-- what the desk has with this book and this line
abbrev pub desk_of : Book → Line → Desk
desk_of b l = desk (tables b) (held l)

-- this was said to a ticket, or to a line that is none; where all went well, it was added to a text, with byte 10 behind
pub record Says {E : Type 0} (r : Result (Unit {0}) E) (w : Net) (n : Counts) (t : Tables) (ticket : Result Ticket TicketFault) (old new : List ℕ) (t' : Tables) : Type 0 where
  pub said : List ℕ
  pub served : Served w n t ticket said t'
  pub written : OnOk r (new ≡ old ++ (said ++ 10 ∷ []))

-- what is written in reply to a line: what is said to it, and byte 10
pub record Replies (w : Net) (n : Counts) (t : Tables) (line out : List ℕ) (t' : Tables) : Type 0 where
  pub said : List ℕ
  pub answered : Answered w n t line said t'
  pub written : out ≡ said ++ 10 ∷ []

-- the line is at its end: it is replied to, and another begins
pub record Turns (w : Net) (n : Counts) (s : Desk) (out : List ℕ) (s' : Desk) : Type 0 where
  pub replied : Replies w n s.tables s.line out s'.tables
  pub emptied : s'.line ≡ []

-- the line goes on
abbrev pub Keeps : Desk → ℕ → List ℕ → Desk → Type 0
Keeps s b out s' = Rests (desk s.tables (kept (s.line ++ b ∷ []))) out s'

-- one more byte: byte 10 ends a line, and any other is kept
abbrev pub Takes : Net → Counts → Desk → ℕ → List ℕ → Desk → Type 0
Takes w n s b out s' = MatchBool (b == 10) (Turns w n s out s') (Keeps s b out s')

-- one more chunk, byte by byte
abbrev pub Feeds : Net → Counts → Desk → List ℕ → List ℕ → Desk → Type 0
Feeds w n = Runs (Takes w n)

-- the end of the input: it ends a line that has begun
abbrev pub Ends : Net → Counts → Desk → List ℕ → Desk → Type 0
Ends w n s out s' = MatchBool (length s.line == 0) (Rests s out s') (Turns w n s out s')

-- P tells what is added to a text, and what the desk has then
abbrev pub Appends : (List ℕ → Desk → Type 0) → List ℕ → List ℕ → Desk → Type 0
Appends P old new s' = (out : List ℕ) × P out s' × (new ≡ old ++ out)

-- P tells these tables, whatever is written and whatever line is being read
abbrev pub Leaves : (List ℕ → Desk → Type 0) → Tables → Type 0
Leaves P t = (out line : List ℕ) × P out (desk t line)

-- the tables after some front of a chunk
abbrev pub InPart : Net → Counts → Desk → List ℕ → Tables → Type 0
InPart w n s bs t = (k : ℕ) × Leaves (Feeds w n s (take k bs)) t
