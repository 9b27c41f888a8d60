-- The tables of the largest network have room for the book of any.
use Rattle.std.proofs.Common.{◌≡◌, ◌*◌, ◌≤◌, length, Ok, Err, mul-le-mul, arith}
use Rattle.std.proofs.lemmas.Bool.{and_from, cond-true, le-leb}
use Rattle.fault.specs.declared.book.BookFault.TheVariants.{BookTable}
use Rattle.network.specs.declared.counts.Counts.{Counts}
use Rattle.network.specs.Extents.{Counted}
use Rattle.network.specs.Tariffs.{span_entries}
use Rattle.records.specs.Chains.{circuit_count}
use Rattle.book.specs.Opening.{fits, room}
use Rattle.book.specs.State.{Tables}

pub roomy : (n : Counts) (t : Tables) → Counted n → 4096 ≤ length t.channels → 128 ≤ length t.circuits → 256 ≤ length t.spans → room n t ≡ Ok tt
roomy n t c channels circuits spans =
    let most : span_entries n ≤ 256 * 16 = mul-le-mul c.2 c.4 in
    cond-true (fits n t) (Ok tt) (Err BookTable)
    (and_from _ _
    (le-leb (span_entries n) (length t.channels) (omega arith))
    (and_from _ _ (le-leb circuit_count (length t.circuits) circuits) (le-leb n.spans (length t.spans) (omega (arith, c.2)))))
