use Rattle.std.proofs.Common.{arith}
use Rattle.plan.proofs.Parts.{record_is}
use Rattle.plan.proofs.Rows.{accepted, refused, record_more}
use Rattle.plan.proofs.checks.check_section.Goals as goal

pub as_chunks-requires : goal.as_chunks-requires
as_chunks-requires g c = let s = g.met.R.Record.size in (omega arith, s.0)

pub returns-then-not-is_sound : goal.returns-then-not-is_sound
returns-then-not-is_sound g c =
    let w = c.args.window in
    let a = c.as_chunks.ensures in
    let is = record_is g.row.N g.R.Record.record_in w.bytes.now c.as_chunks.result.0.now c.loop-i.i _ _ _ g.met.R.Record.apart a.front a.front_len c.loop-i-test.true c.index-records-i.is c.read-record.ensures in
    refused g.row.N (g.R.Judged.sound c.args.counts) g.R.Judged.fault w.start (g.R.Record.record_in w.bytes.now) c.loop-i.i c.loop-i.last c.read-record.result c.loop-i.invariant.1 is c.loop-i.invariant.0 _ _ _ (omega (arith, a.front_len)) c.fault.ensures c.place.ensures c.if-not-is_sound.ensures

pub loop-i-preserved : goal.loop-i-preserved
loop-i-preserved g c =
    let w = c.args.window in
    let a = c.as_chunks.ensures in
    let is = record_is g.row.N g.R.Record.record_in w.bytes.now c.as_chunks.result.0.now c.loop-i.i _ _ _ g.met.R.Record.apart a.front a.front_len c.loop-i-test.true c.index-records-i.is c.read-record.ensures in
    record_more g.row.N (g.R.Judged.sound c.args.counts) g.R.Judged.fault w.start (g.R.Record.record_in w.bytes.now) c.loop-i.i c.loop-i.last c.read-record.result c.loop-i.invariant.1 is c.loop-i.invariant.0 c.if-not-is_sound.ensures

pub returns : goal.returns
returns g c =
    let w = c.args.window in
    accepted g.row.N (g.R.Judged.sound c.args.counts) g.R.Judged.fault w.start (g.R.Record.record_in w.bytes.now) c.loop-i.i _ (omega (arith, c.as_chunks.ensures.front_len)) c.loop-i.invariant.0
