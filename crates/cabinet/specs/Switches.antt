-- Settings in plain numbers.
use Rattle.std.specs.Prelude.{ℕ, None, Some, Option}
use Rattle.slip.specs.declared.setting.Port.{Port}
use Rattle.slip.specs.declared.setting.Setting.{Setting}
use Rattle.cabinet.specs.declared.switch.Switch.{Switch}

-- a port's span, 65,535 where there is no port
abbrev pub span_of : Option Port → ℕ
span_of None = 65535
span_of (Some p) = p.span

-- and its label, 0 where there is none
abbrev pub label_of : Option Port → ℕ
label_of None = 0
label_of (Some p) = p.label.bits

abbrev pub switch : Setting → Switch
switch s = record {
  node = s.node;
  input_span = span_of s.input;
  output_span = span_of s.output;
  input_label = label_of s.input;
  output_label = label_of s.output;
}
