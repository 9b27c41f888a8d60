use Rattle.std.proofs.Common.{◌+◌, sym, subst}
use Rattle.heap.specs.Heaps.{Seated, IsHeap}
use Rattle.search.specs.Labels.{labels_in}
use Rattle.search.specs.Frontiers.{Listed, entry_at_most}
use Rattle.search.proofs.Frontiers.{heap_kept, unknown_fresh, listed_added}
use Rattle.search.proofs.frontier.add.Goals as goal

pub put_in-requires-clause-fresh : goal.put_in-requires-clause-fresh
put_in-requires-clause-fresh g c =
    let w = c.args.work.now in
    unknown_fresh w.extent.counts w.labels.now w.slots w.seats w.count w.listed w.seated c.args.arrival _ c.requires.inside c.entry_of-entry.ensures.entry c.requires.unknown

pub put_in-requires-clause-heap : goal.put_in-requires-clause-heap
put_in-requires-clause-heap g c =
    let w = c.args.work.now in
    heap_kept w.extent.counts w.labels.now w.slots w.seats w.count w.listed w.seated c.write.new.labels c.args.arrival c.requires.inside c.write.ensures.others g.K.Kind.ops w.slots w.count
    (λ e h. (h, λ q. unknown_fresh w.extent.counts w.labels.now w.slots w.seats w.count w.listed w.seated c.args.arrival e c.requires.inside q c.requires.unknown h)) w.heap

pub invariant_of-work-clause-listed : goal.invariant_of-work-clause-listed
invariant_of-work-clause-listed g c =
    let w = c.args.work.now in
    subst (λ t. Listed w.extent.counts (labels_in w.extent.counts t) c.put_in.new.slots c.put_in.new.seats (w.count + 1)) (sym c.put_in.ensures.labels)
    (listed_added w.extent.counts w.labels.now w.slots w.seats w.count w.listed w.seated c.write.new.labels c.args.arrival c.requires.inside c.write.ensures.others
    c.put_in.new.slots c.put_in.new.seats (w.count + 1) (subst (λ m. Seated m c.put_in.new.slots c.put_in.new.seats (w.count + 1)) c.arrival_entries.ensures.is c.put_in.ensures.seated)
    c.entry_of-entry.result c.args.known c.entry_of-entry.ensures.entry c.put_in.ensures.beside c.requires.unsettled c.write.ensures.written)

pub invariant_of-work-clause-heap : goal.invariant_of-work-clause-heap
invariant_of-work-clause-heap g c =
    let w = c.args.work.now in
    subst (λ t. IsHeap (entry_at_most g.K.Kind.ops t) c.put_in.new.slots (w.count + 1)) (sym c.put_in.ensures.labels) c.put_in.ensures.heap

pub returns-clause-written : goal.returns-clause-written
returns-clause-written g c =
    let w = c.args.work.now in
    rw c.put_in.ensures.labels (record { there = c.write.ensures.written; others = c.write.ensures.others })
