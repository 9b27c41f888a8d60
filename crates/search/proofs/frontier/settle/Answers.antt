use Rattle.std.proofs.Common.{◌≡◌, ◌≢◌, ◌∙◌, ◌-◌, None, slice_index_or, ap, subst}
use Rattle.heap.specs.Heaps.{Holds, Seated}
use Rattle.search.specs.declared.arrival.Arrival.{Arrival}
use Rattle.search.specs.Labels.{cost_of, settle}
use Rattle.search.specs.Labels.{labels_in}
use Rattle.search.proofs.Frontiers.{entry_open, entry_shows, least_is, heap_kept, listed_settled}
use Rattle.search.proofs.frontier.settle.Goals as goal

pub invariant_of-work-clause-listed : goal.invariant_of-work-clause-listed
invariant_of-work-clause-listed g c =
    let w = c.args.work.now in
    let n = w.extent.counts in
    let x = c.arrival_at-arrival.result in
    let told = c.take_least-entry.ensures in
    let others = subst (λ t. (y : Arrival) → y ≢ x → labels_in n c.mark.new.labels y ≡ labels_in n t y) told.labels c.mark.ensures.others in
    let written = subst (λ t. labels_in n c.mark.new.labels x ≡ settle (labels_in n t x)) told.labels c.mark.ensures.written in
    listed_settled n w.labels.now w.slots w.seats w.count w.listed w.seated c.mark.new.labels x c.arrival_at-arrival.ensures.inside others
    c.take_least-entry.new.slots c.take_least-entry.new.seats (w.count - 1) (subst (λ m. Seated m c.take_least-entry.new.slots c.take_least-entry.new.seats (w.count - 1)) c.arrival_entries.ensures.is told.seated)
    c.take_least-entry.result c.arrival_at-arrival.ensures.entry told.beside told.gone written

pub invariant_of-work-clause-heap : goal.invariant_of-work-clause-heap
invariant_of-work-clause-heap g c =
    let w = c.args.work.now in
    let n = w.extent.counts in
    let x = c.arrival_at-arrival.result in
    let told = c.take_least-entry.ensures in
    let others = subst (λ t. (y : Arrival) → y ≢ x → labels_in n c.mark.new.labels y ≡ labels_in n t y) told.labels c.mark.ensures.others in
    heap_kept n w.labels.now w.slots w.seats w.count w.listed w.seated c.mark.new.labels x c.arrival_at-arrival.ensures.inside others
    g.K.Kind.ops c.take_least-entry.new.slots (w.count - 1)
    (λ e h. (told.beside.kept e h, λ q. told.gone (subst (Holds c.take_least-entry.new.slots (w.count - 1)) (q ∙ c.arrival_at-arrival.ensures.entry) h))) told.heap

pub returns-clause-open : goal.returns-clause-open
returns-clause-open g c =
    let w = c.args.work.now in
    entry_open w.extent.counts w.labels.now w.slots w.seats w.count w.listed w.seated c.arrival_at-arrival.result c.take_least-entry.result c.arrival_at-arrival.ensures.inside c.arrival_at-arrival.ensures.entry c.take_least-entry.ensures.beside.new

pub returns-clause-least : goal.returns-clause-least
returns-clause-least g c =
    let w = c.args.work.now in
    least_is w.extent.counts w.labels.now w.slots w.seats w.count w.listed w.seated g.K.Kind.ops c.arrival_at-arrival.result c.take_least-entry.result c.arrival_at-arrival.ensures.inside c.arrival_at-arrival.ensures.entry c.take_least-entry.ensures.beside.new c.take_least-entry.ensures.least

pub returns-clause-top : goal.returns-clause-top
returns-clause-top g c =
    let w = c.args.work.now in
    entry_shows w.extent.counts w.labels.now w.slots w.seats w.count w.listed w.seated c.arrival_at-arrival.result c.take_least-entry.result c.arrival_at-arrival.ensures.inside c.arrival_at-arrival.ensures.entry c.take_least-entry.ensures.beside.new
    ∙ ap (λ i. cost_of (slice_index_or w.labels.now i None)) c.take_least-entry.ensures.top

pub returns-clause-written : goal.returns-clause-written
returns-clause-written g c =
    let w = c.args.work.now in
    let n = w.extent.counts in
    let x = c.arrival_at-arrival.result in
    let told = c.take_least-entry.ensures in
    record {
      there = subst (λ t. labels_in n c.mark.new.labels x ≡ settle (labels_in n t x)) told.labels c.mark.ensures.written;
      others = subst (λ t. (y : Arrival) → y ≢ x → labels_in n c.mark.new.labels y ≡ labels_in n t y) told.labels c.mark.ensures.others;
    }
