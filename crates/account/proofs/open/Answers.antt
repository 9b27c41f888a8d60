use Rattle.account.proofs.Runs.{law_of_opened}
use Rattle.account.proofs.open.Goals as goal

pub returns-clause-law : goal.returns-clause-law
returns-clause-law c = law_of_opened _ c.args.mark _ c.open.result c.requires c.open.ensures.counts c.open.ensures.tables
