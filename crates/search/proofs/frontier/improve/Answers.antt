use Rattle.std.proofs.Common.{sym, subst}
use Rattle.heap.specs.Heaps.{Seated, IsHeap}
use Rattle.search.specs.Labels.{labels_in}
use Rattle.search.specs.Frontiers.{Listed, entry_at_most}
use Rattle.search.proofs.Frontiers.{open_held, was_heap, listed_still}
use Rattle.search.proofs.frontier.improve.Goals as goal

pub move_up-requires-clause-held : goal.move_up-requires-clause-held
move_up-requires-clause-held g c =
    let w = c.args.work.now in
    rw c.entry_of-entry.ensures.entry (open_held w.extent.counts w.labels.now w.slots w.seats w.count w.listed w.seated c.args.arrival c.requires.inside c.requires.known)

pub move_up-requires-clause-was : goal.move_up-requires-clause-was
move_up-requires-clause-was g c =
    let w = c.args.work.now in
    was_heap w.extent.counts w.labels.now w.slots w.seats w.count w.listed w.seated c.write.new.labels c.args.arrival c.requires.inside c.write.ensures.others g.K.Kind.ops g.met.K.Kind.laws
    c.entry_of-entry.result c.args.known c.entry_of-entry.ensures.entry c.requires.known c.requires.unsettled c.write.ensures.written c.requires.less w.heap

pub invariant_of-work-clause-listed : goal.invariant_of-work-clause-listed
invariant_of-work-clause-listed g c =
    let w = c.args.work.now in
    subst (λ t. Listed w.extent.counts (labels_in w.extent.counts t) c.move_up.new.slots c.move_up.new.seats w.count) (sym c.move_up.ensures.labels)
    (listed_still w.extent.counts w.labels.now w.slots w.seats w.count w.listed w.seated c.write.new.labels c.args.arrival c.requires.inside c.write.ensures.others
    c.move_up.new.slots c.move_up.new.seats w.count (subst (λ m. Seated m c.move_up.new.slots c.move_up.new.seats w.count) c.arrival_entries.ensures.is c.move_up.ensures.seated)
    c.args.known c.move_up.ensures.same c.requires.known c.requires.unsettled c.write.ensures.written)

pub invariant_of-work-clause-heap : goal.invariant_of-work-clause-heap
invariant_of-work-clause-heap g c =
    let w = c.args.work.now in
    subst (λ t. IsHeap (entry_at_most g.K.Kind.ops t) c.move_up.new.slots w.count) (sym c.move_up.ensures.labels) c.move_up.ensures.heap

pub returns-clause-written : goal.returns-clause-written
returns-clause-written g c =
    rw c.move_up.ensures.labels (record { there = c.write.ensures.written; others = c.write.ensures.others })
