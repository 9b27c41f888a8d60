use Rattle.std.proofs.Common.{◌≡◌, ◌+◌, length}
use Rattle.network.specs.Tables.{laid}
use Rattle.network.specs.Indexes.{leaving_by}
use Rattle.network.proofs.index.write_row.Given as goal

abbrev pub invariant-loop-number : goal.invariant-loop-number
invariant-loop-number l = record {
  end : l.end ≡ l.start + length (leaving_by l.number l.ends l.node);
  row : l.order ≡ laid l.start (leaving_by l.number l.ends l.node) l.initial.order;
}
