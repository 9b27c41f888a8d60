-- How a setting is printed.
use Rattle.std.specs.Prelude.{List, ℕ, ◌++◌, Some, None, Option, codes, decimal}
use Rattle.label.specs.Texts.{label_text}
use Rattle.slip.specs.declared.setting.Port.{Port}
use Rattle.slip.specs.declared.setting.Setting.{Setting}

-- a port: its span and its label
abbrev pub port_text : Port → List ℕ
port_text p = decimal p.span ++ (codes " " ++ label_text p.label.bits)

-- a dash for each where there is no port
abbrev pub side_text : Option Port → List ℕ
side_text None = codes "- -"
side_text (Some p) = port_text p

-- its node, its input and its output
abbrev pub setting_text : Setting → List ℕ
setting_text s = decimal s.node ++ (codes " " ++ (side_text s.input ++ (codes " " ++ side_text s.output)))
