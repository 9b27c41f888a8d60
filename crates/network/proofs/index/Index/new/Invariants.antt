use Rattle.std.proofs.Common.{◌≡◌, length}
use Rattle.network.specs.Indexes.{start_at, Rows}
use Rattle.network.proofs.Rowed.{before}
use Rattle.network.proofs.index.Index.new.Given as goal

abbrev pub invariant-loop-node : goal.invariant-loop-node
invariant-loop-node l = record {
  long : length l.starts ≡ 65;
  end : l.end ≡ before l.counts.spans l.ends l.node;
  last : start_at l.starts l.node ≡ l.end;
  rows : Rows l.node l.end l.counts.spans l.ends l.order l.starts;
}
