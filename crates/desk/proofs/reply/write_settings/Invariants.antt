use Rattle.std.specs.Fmt.{IsPlainFormatter, HasWritten}
use Rattle.std.proofs.Common.{take}
use Rattle.desk.specs.Replies.{settings_text}
use Rattle.desk.proofs.reply.write_settings.Given as goal

abbrev pub invariant-loop-setting : goal.invariant-loop-setting
invariant-loop-setting g l = IsPlainFormatter l.initial.f → HasWritten g.W.Write.write_str_gives l.initial.f (settings_text (take l.setting-index l.settings)) l.f
