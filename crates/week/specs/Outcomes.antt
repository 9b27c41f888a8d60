-- What comes of a week.
use Rattle.std.specs.Prelude.{◌≡◌, Ok, Err, Result}
use Rattle.fault.specs.declared.book.BookFault.{BookFault}
use Rattle.book.specs.declared.Book.{Book}
use Rattle.week.specs.declared.outcome.Outcome.{Outcome}
use Rattle.week.specs.declared.outcome.Outcome.TheVariants as outcome
use Rattle.week.specs.declared.told.Told.{Told}

-- tables without room are refused; else P holds of what was told, and of the book that is left
abbrev pub Comes : Result (Unit {0}) BookFault → (Told → Book → Type 0) → Outcome → Type 0
Comes room P (outcome.Refused f) = room ≡ Err f
Comes room P (outcome.Lived a b) = (room ≡ Ok tt) × P a b
