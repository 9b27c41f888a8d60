use Rattle.std.proofs.Common.{None, take}
use Rattle.network.specs.Net.{net}
use Rattle.book.specs.State.{tables, Kept}
use Rattle.cabinet.specs.Serving.{Good, stand, Runs}
use Rattle.cabinet.proofs.running.serve_all.Given as goal

abbrev pub invariant-loop-i : goal.invariant-loop-i
invariant-loop-i l =
    Kept l.initial.book l.book
    × Good l.book.mark (tables l.book) l.hand
    × Runs (net l.network) l.initial.book.extent.counts l.initial.book.mark (stand (tables l.initial.book) None l.initial.switches) (take l.i l.requests) (take l.i l.replies) (stand (tables l.book) l.hand l.switches)
