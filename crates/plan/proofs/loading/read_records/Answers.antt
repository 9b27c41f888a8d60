use Rattle.std.proofs.Common.{arith}
use Rattle.network.proofs.Filled.{tabled_step}
use Rattle.plan.proofs.Parts.{record_is}
use Rattle.plan.proofs.loading.read_records.Goals as goal

pub as_chunks-requires : goal.as_chunks-requires
as_chunks-requires g c = let s = g.met.R.Record.size in (omega arith, s.0)

pub loop-i-preserved : goal.loop-i-preserved
loop-i-preserved g c =
    let in' = g.R.Record.record_in in
    let w = c.args.window in
    let a = c.as_chunks.ensures in
    let is = record_is g.row.N in' w.bytes.now c.as_chunks.result.0.now c.loop-i.i _ _ _ g.met.R.Record.apart a.front a.front_len c.loop-i-test.true c.index-records-i.is c.read.ensures in
    tabled_step c.loop-i.table c.args.table.now (in' w.bytes.now) c.loop-i.i _ c.loop-i.invariant (omega (arith, a.front_len)) is
