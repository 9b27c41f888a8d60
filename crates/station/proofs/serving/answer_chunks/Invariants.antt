use Rattle.std.proofs.Common.{◌≡◌, [], string_bytes}
use Rattle.network.specs.Net.{net}
use Rattle.book.specs.State.{tables, Kept}
use Rattle.desk.specs.Feeding.{desk, desk_of}
use Rattle.station.proofs.Reading.{Reads}
use Rattle.station.proofs.serving.answer_chunks.Given as goal

abbrev pub invariant-loop : goal.invariant-loop
invariant-loop g l =
    Kept l.initial.book l.book
    × Reads (net l.network) l.initial.book.extent.counts (desk (tables l.initial.book) []) (g.R.Read.remaining l.initial.input) (g.R.Read.remaining l.input) (g.W.Write.contents l.initial.output) (g.W.Write.contents l.output) (desk_of l.book l.line)
    × (string_bytes l.out ≡ [])
