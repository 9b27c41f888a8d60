-- Opening a book.
use Rattle.std.specs.Prelude.{Bool, cond, ◌&&◌, length, None, Ok, Err, Result, nat_le}
use Rattle.fault.specs.declared.book.BookFault.{BookFault}
use Rattle.fault.specs.declared.book.BookFault.TheVariants.{BookTable}
use Rattle.network.specs.declared.counts.Counts.{Counts}
use Rattle.network.specs.Tariffs.{span_entries}
use Rattle.network.specs.Tables.{filled}
use Rattle.records.specs.declared.circuit.Circuit.TheVariants as circuit
use Rattle.records.specs.declared.state.SpanState.TheVariants as span
use Rattle.records.specs.Chains.{circuit_count}
use Rattle.book.specs.State.{Tables, lent}

-- each table has an entry for all that a book needs of it
abbrev pub fits : Counts → Tables → Bool
fits n t = nat_le (span_entries n) (length t.channels) && (nat_le circuit_count (length t.circuits) && nat_le n.spans (length t.spans))

-- whether there is room for a book
abbrev pub room : Counts → Tables → Result (Unit {0}) BookFault
room n t = cond (fits n t) (Ok tt) (Err BookTable)

-- all channels and circuits are free, all spans open; what a table holds beyond stays
abbrev pub opened : Counts → Tables → Tables
opened n t =
    lent (filled (span_entries n) None t.channels) (filled circuit_count circuit.Free t.circuits) (filled n.spans span.Open t.spans)
