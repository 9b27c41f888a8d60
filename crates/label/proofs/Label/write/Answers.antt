use Rattle.std.proofs.Common.{ap, ◌∙◌, w16}
use Rattle.std.proofs.lemmas.Int.{to_z-of_z}
use Rattle.label.specs.Labels.{is_writable, write}
use Rattle.label.proofs.Back.{refuses_exactly, reads_back}
use Rattle.label.proofs.Label.write.Goals as goal

pub returns-clause-back : goal.returns-clause-back
returns-clause-back c = reads_back c.args.code c.args.n _ (c.label_of.ensures ∙ ap (write c.args.code) (to_z-of_z w16 c.args.n c.ranges.n))

pub returns-clause-exact : goal.returns-clause-exact
returns-clause-exact c = refuses_exactly (is_writable c.args.code c.args.n) _ _ (c.label_of.ensures ∙ ap (write c.args.code) (to_z-of_z w16 c.args.n c.ranges.n))
