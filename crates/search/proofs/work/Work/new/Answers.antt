use Rattle.std.proofs.Common.{refl, sym, subst}
use Rattle.network.specs.Tariffs.{arrival_entries}
use Rattle.search.specs.Labels.{labels_in}
use Rattle.search.specs.Frontiers.{Listed, entry_at_most}
use Rattle.heap.proofs.Tables.{none_seated}
use Rattle.heap.proofs.Sifts.{none_heap}
use Rattle.search.proofs.Frontiers.{none_listed}
use Rattle.search.proofs.work.Work.new.Goals as goal

pub invariant_of-result-clause-listed : goal.invariant_of-result-clause-listed
invariant_of-result-clause-listed g c = subst (λ t. Listed c.args.extent.counts (labels_in c.args.extent.counts t) c.no_entries-slots.result c.no_entries-seats.result 0) (sym c.fill.ensures) (none_listed c.args.extent.counts c.args.labels.now c.arrival_entries.result c.no_entries-slots.result c.no_entries-seats.result c.arrival_entries.ensures.is)

pub invariant_of-result-clause-seated : goal.invariant_of-result-clause-seated
invariant_of-result-clause-seated g c = none_seated (arrival_entries c.args.extent.counts) c.no_entries-slots.result c.no_entries-seats.result 0 refl

pub invariant_of-result-clause-heap : goal.invariant_of-result-clause-heap
invariant_of-result-clause-heap g c = none_heap (entry_at_most g.K.Kind.ops c.fill.new.table) c.no_entries-slots.result 0 refl
