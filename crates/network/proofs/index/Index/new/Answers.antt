use Rattle.std.proofs.Common.{◌+◌, length, sym, refl, ap, ◌∙◌, subst, arith}
use Rattle.std.proofs.lemmas.List.{length-set}
use Rattle.network.specs.declared.counts.Counts.{Counts}
use Rattle.network.specs.Indexes.{Indexed}
use Rattle.network.specs.Tables.{laid}
use Rattle.network.proofs.Rowed.{before-le, before_none, cut_row, row_end, rows_more, rows_all}
use Rattle.network.proofs.index.Index.new.Goals as goal

pub loop-node-init : goal.loop-node-init
loop-node-init c = record {
  long = refl;
  end = sym (before_none c.counts-counts.result.spans c.args.ends.now);
  last = refl;
  rows = λ u h. absurd (omega arith);
}

pub write_row-end-requires-clause-room : goal.write_row-end-requires-clause-room
write_row-end-requires-clause-room c =
    let n = c.counts-counts.result.spans in
    let next = row_end n c.args.ends.now c.loop-node.node c.loop-node.end (omega arith) c.loop-node.invariant.end in
    omega (arith, next, before-le n c.args.ends.now (c.loop-node.node + 1))

pub overflow_cast-starts : goal.overflow_cast-starts
overflow_cast-starts c =
    let n = c.counts-counts.result.spans in
    let next = row_end n c.args.ends.now c.loop-node.node c.loop-node.end (omega arith) c.loop-node.invariant.end in
    omega (arith, next, c.write_row-end.ensures.end, before-le n c.args.ends.now (c.loop-node.node + 1))

pub loop-node-preserved : goal.loop-node-preserved
loop-node-preserved c =
    let n = c.counts-counts.result.spans in
    let m = c.loop-node.node in
    let inv = c.loop-node.invariant in
    let next = row_end n c.args.ends.now m c.loop-node.end (omega arith) inv.end in
    let cut = cut_row n c.args.ends.now m (omega arith) in
    let more = rows_more m c.loop-node.end n c.args.ends.now c.loop-node.order c.write_row-end.new.order c.loop-node.starts _ c.write_row-end.result inv.rows inv.last (omega (arith, next, before-le n c.args.ends.now (m + 1))) (omega arith)
    (c.write_row-end.ensures.end ∙ ap (λ l. c.loop-node.end + length l) cut) (c.write_row-end.ensures.row ∙ ap (λ l. laid c.loop-node.end l c.loop-node.order) cut) refl in
    record { long = length-set c.loop-node.starts (m + 1) c.write_row-end.result ∙ inv.long; end = c.write_row-end.ensures.end ∙ next; last = more.0; rows = more.1 }

pub returns : goal.returns
returns c =
    let n = c.counts-counts.result in
    let inv = c.loop-node.invariant in
    subst (λ (m : Counts). Indexed m c.args.ends.now c.loop-node.order c.loop-node.starts) c.counts-counts.ensures.is
    (rows_all c.loop-node.node c.loop-node.end 256 n.nodes n.spans c.args.ends.now c.loop-node.order c.loop-node.starts inv.rows (omega arith) (omega (arith, inv.end, before-le n.spans c.args.ends.now c.loop-node.node)))
