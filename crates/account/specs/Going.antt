-- Calls that lead from a book to a book, told by what they are.
use Rattle.std.specs.Prelude.{◌≡◌, ℕ, List, [], ◌∷◌, ◌++◌}
use Rattle.network.specs.Net.{Net}
use Rattle.network.specs.declared.counts.Counts.{Counts}
use Rattle.cost.specs.Laws.{Ops}
use Rattle.cost.specs.Numbers.{Numbering, in_numbers}
use Rattle.book.specs.declared.Book.{Book}
use Rattle.book.specs.State.{Tables}
use Rattle.account.specs.Events.{Asked, Event}
use Rattle.account.specs.Law.{Run, Agrees}

-- what a search by any kind of cost is asked for, in numbers
abbrev pub asked : {V : Type 0} → Numbering V → Ops V → Net → ℕ → ℕ → ℕ → Asked
asked c o w s t room = record { net = w; kind = in_numbers c o; from = s; to = t; room = room }

-- one call
abbrev pub Is : Event → List Event → Type 0
Is e h = h ≡ e ∷ []

-- calls of which P holds, and then calls of which Q holds; the last stands first
pub record Then (P Q : List Event → Type 0) (h : List Event) : Type 0 where
  pub first : List Event
  pub rest : List Event
  pub begins : P first
  pub goes_on : Q rest
  pub whole : h ≡ rest ++ first

-- calls of which P holds lead from a book to a book
pub record Goes (P : List Event → Type 0) (b b' : Book) : Type 0 where
  pub calls : List Event
  pub run : Run b calls b'
  pub told : P calls

-- calls of which P holds were made, and tables agree with their account
pub record Accounted (P : List Event → Type 0) (n : Counts) (mark : ℕ) (x : Tables) : Type 0 where
  pub calls : List Event
  pub told : P calls
  pub agrees : Agrees n mark calls x
