use Rattle.std.proofs.Common.{◌∙◌}
use Rattle.semilightpath.proofs.Lists.{list_any-same}
use Rattle.semilightpath.proofs.path.on.Goals as goal

pub returns : goal.returns
returns c = c.contains.ensures.value ∙ list_any-same c.args.step c.args.path.now
