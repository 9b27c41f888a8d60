use Rattle.std.proofs.Common.{◌-◌}
use Rattle.network.specs.Tariffs.{arrival_entries}
use Rattle.search.specs.Labels.{labels_in, path_to}
use Rattle.laying.proofs.Laying.{Laying}
use Rattle.laying.proofs.lay.Given as goal

abbrev pub invariant-loop-steps : goal.invariant-loop-steps
invariant-loop-steps g l =
    Laying (labels_in l.extent.counts l.labels) l.extent.counts l.circuit (path_to l.extent.counts l.labels l.fn.end) l.initial.channels l.channels l.next l.steps (arrival_entries l.extent.counts - l.steps) l.point
