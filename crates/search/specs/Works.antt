-- What one search works on.
use Rattle.std.specs.Prelude.{◌≡◌, None, Option, length, drop, slice_index, slice_index_or}
use Rattle.network.specs.Tariffs.{arrival_entries}
use Rattle.search.specs.declared.work.Work.{Work}
use Rattle.search.specs.Labels.{Labels, labels_in, cost_of}

-- what is known
abbrev pub labels_of : {K V : Type 0} {kind : _} {display : _} → Work K V kind display → Labels V
labels_of w = labels_in w.extent.counts w.labels.now

-- what the arrival at the top of the heap costs
abbrev pub top_cost : {K V : Type 0} {kind : _} {display : _} → Work K V kind display → Option V
top_cost w = cost_of (slice_index_or w.labels.now (slice_index w.slots 0) None)

-- the same network and the same lent table, and what lies beyond the entries that are needed is the same
pub record KeepsRest {K V : Type 0} {kind : _} {display : _} (a b : Work K V kind display) : Type 0 where
  pub extent : b.extent ≡ a.extent
  pub name : b.labels.ghost_name ≡ a.labels.ghost_name
  pub long : length b.labels.now ≡ length a.labels.now
  pub beyond : drop (arrival_entries a.extent.counts) b.labels.now ≡ drop (arrival_entries a.extent.counts) a.labels.now
