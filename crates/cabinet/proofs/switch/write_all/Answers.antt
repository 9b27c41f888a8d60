use Rattle.cabinet.proofs.Written.{written_more}
use Rattle.cabinet.proofs.switch.write_all.Goals as goal

pub loop-i-preserved : goal.loop-i-preserved
loop-i-preserved c =
    written_more c.args.settings.now c.loop-i.switches c.args.switches.now c.loop-i.i _ c.of.result c.loop-i.invariant c.loop-i-test.true c.requires c.of.ensures
