use Rattle.std.proofs.Common.{length, Some, ap, ◌∙◌}
use Rattle.cabinet.proofs.Roomy.{refused, never_short}
use Rattle.cabinet.proofs.judging.judge.Goals as goal

pub unreachable-requires : goal.unreachable-requires
unreachable-requires c =
    never_short c.args.bytes.now (length c.args.tariffs.now) (length c.args.converters.now) c.requires.spans c.requires.nodes c.in-Err-Book.field-0-0 (c.in-Err-Book.ensures.answer ∙ ap Some c.in-Err-Book.field-0-is)

pub returns-in-Err-File : goal.returns-in-Err-File
returns-in-Err-File c =
    refused c.args.bytes.now (length c.args.tariffs.now) (length c.args.converters.now) c.requires.spans c.requires.nodes c.in-Err-File.fault (c.in-Err-File.ensures.answer ∙ ap Some c.in-Err-File.field-0-is)
