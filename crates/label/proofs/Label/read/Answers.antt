use Rattle.label.specs.Labels.{is_sound}
use Rattle.label.proofs.Back.{refuses_exactly}
use Rattle.label.proofs.Label.read.Goals as goal

pub returns-clause-exact : goal.returns-clause-exact
returns-clause-exact c = refuses_exactly (is_sound c.args.self.bits) _ _ c.reading_of.ensures.is
