use Rattle.std.proofs.Common.{◌≡◌, ◌-◌, ◌++◌, length, take, drop}
use Rattle.network.specs.Tariffs.{arrival_entries}
use Rattle.search.specs.Labels.{labels_in, trail, path_to}
use Rattle.search.proofs.path.write_steps.Given as goal

abbrev pub invariant-loop-written : goal.invariant-loop-written
invariant-loop-written g l =
    (l.path ≡ take (length l.fn.path - l.written) l.fn.path ++ drop (length l.fn.path - l.written) (path_to l.extent.counts l.labels l.fn.end))
    × (trail (labels_in l.extent.counts l.labels) (arrival_entries l.extent.counts - l.written) l.point ≡ take (length l.fn.path - l.written) (path_to l.extent.counts l.labels l.fn.end))
