use Rattle.std.proofs.Common.{◌≡◌, ◌+◌, ◌-◌, length}
use Rattle.network.specs.Tariffs.{arrival_entries}
use Rattle.search.specs.Labels.{labels_in, trail}
use Rattle.search.proofs.path.count_steps.Given as goal

abbrev pub invariant-loop-count : goal.invariant-loop-count
invariant-loop-count g l =
    length (trail (labels_in l.extent.counts l.labels) (arrival_entries l.extent.counts) l.fn.end)
    ≡ l.count + length (trail (labels_in l.extent.counts l.labels) (arrival_entries l.extent.counts - l.count) l.point)
