use Rattle.network.specs.Tariffs.{arrival_entries}
use Rattle.search.specs.Labels.{labels_in, path_to}
use Rattle.search.proofs.Backs.{turn, all_written}
use Rattle.search.proofs.path.write_steps.Goals as goal

pub returns-in_default : goal.returns-in_default
returns-in_default g c =
    let a = c.args in
    let i = c.loop-written.invariant in
    all_written (labels_in a.extent.counts a.labels.now) a.path.now c.loop-written.path (path_to a.extent.counts a.labels.now a.end) (arrival_entries a.extent.counts) c.loop-written.written c.loop-written.point c.last_step.result
    i.0 i.1 c.requires c.last_step.ensures c.in_default.is

pub loop-written-preserved : goal.loop-written-preserved
loop-written-preserved g c =
    let a = c.args in
    let i = c.loop-written.invariant in
    turn (labels_in a.extent.counts a.labels.now) a.path.now c.loop-written.path (path_to a.extent.counts a.labels.now a.end) (arrival_entries a.extent.counts) c.loop-written.written c.loop-written.point c.last_step.result c.in-Some.last
    i.0 i.1 c.loop-written-test.true c.requires c.loop-written.auto.path c.last_step.ensures c.in-Some.is
