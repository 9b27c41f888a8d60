-- What a book is, and what its tables hold.
use Rattle.std.specs.Prelude.{◌≡◌, List}
use Rattle.records.specs.Chains.{Channel}
use Rattle.records.specs.declared.circuit.Circuit.{Circuit}
use Rattle.records.specs.declared.state.SpanState.{SpanState}
use Rattle.book.specs.declared.Book.{Book}
use Rattle.book.specs.declared.lent.Lent.{Lent}

pub record Tables : Type 0 where
  pub channels : List Channel
  pub circuits : List Circuit
  pub spans : List SpanState

abbrev pub lent : List Channel → List Circuit → List SpanState → Tables
lent channels circuits spans = record { channels = channels; circuits = circuits; spans = spans }

-- what lent tables hold, whole
abbrev pub contents : Lent → Tables
contents t = lent t.channels.now t.circuits.now t.spans.now

-- what the tables of a book hold, whole
abbrev pub tables : Book → Tables
tables b = contents b.lent

-- the same lent tables, whatever they hold
pub record SameTables (a b : Lent) : Type 0 where
  pub channels : b.channels.ghost_name ≡ a.channels.ghost_name
  pub circuits : b.circuits.ghost_name ≡ a.circuits.ghost_name
  pub spans : b.spans.ghost_name ≡ a.spans.ghost_name

-- the same counts and mark, and the same lent tables
pub record Kept (a b : Book) : Type 0 where
  pub counts : b.extent.counts ≡ a.extent.counts
  pub mark : b.mark ≡ a.mark
  pub lent : SameTables a.lent b.lent
