use Rattle.std.proofs.Common.{take, string_bytes}
use Rattle.network.specs.Net.{net}
use Rattle.book.specs.State.{Kept}
use Rattle.desk.specs.Feeding.{desk_of, Feeds, Appends}
use Rattle.desk.proofs.input.feed.Given as goal

abbrev pub invariant-loop-byte : goal.invariant-loop-byte
invariant-loop-byte l =
    Kept l.initial.book l.book
    × Appends (Feeds (net l.network) l.initial.book.extent.counts (desk_of l.initial.book l.initial.line) (take l.byte-index l.chunk))
    (string_bytes l.initial.out)
    (string_bytes l.out)
    (desk_of l.book l.line)
