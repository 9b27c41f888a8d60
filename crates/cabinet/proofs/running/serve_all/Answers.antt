use Rattle.std.proofs.Common.{refl, arith}
use Rattle.network.specs.Net.{net}
use Rattle.book.specs.State.{tables}
use Rattle.cabinet.specs.Serving.{stand}
use Rattle.cabinet.proofs.Served.{kept_then, runs_more}
use Rattle.cabinet.proofs.running.serve_all.Goals as goal

pub loop-i-preserved : goal.loop-i-preserved
loop-i-preserved c =
    let inv = c.loop-i.invariant in
    let e = c.serve-next.ensures in (
      kept_then _ _ _ inv.0 e.kept,
      e.good,
      runs_more (net c.args.network.now) _ _ _ _ _ (stand (tables c.loop-i.book) c.loop-i.hand c.loop-i.switches) _ _ _ _ _ c.serve-next.result (tables c.serve-next.new.book) c.serve-next.new.switches inv.0.counts inv.0.mark c.loop-i-test.true (omega arith) refl inv.2 e.serves,
    )
