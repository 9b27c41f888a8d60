-- What each node's cabinet is told to switch along a path.
use Rattle.std.specs.Prelude.{◌≡◌, ℕ, zero, suc, ◌+◌, ◌-◌, List, ◌++◌, map, length, replicate, Some, None, Option, slice_get, slice_index_or}
use Rattle.std.specs.List.{range_with_len}
use Rattle.std.specs.Option.{option_map}
use Rattle.network.specs.Limits.{number_at}
use Rattle.network.specs.Net.{Net}
use Rattle.network.specs.Spacings.{code_of}
use Rattle.network.specs.declared.step.Step.{Step}
use Rattle.label.specs.Labels.{label_bits}
use Rattle.label.specs.declared.Label.{Label}
use Rattle.semilightpath.specs.Paths.{tail_of, head_of}
use Rattle.slip.specs.declared.setting.Port.{Port}
use Rattle.slip.specs.declared.setting.Setting.{Setting}

-- the label of a step: the spacing's code and its channel's number n
abbrev pub label_of : Net → Step → Label
label_of w e = record { bits = label_bits (code_of w.spacing) (number_at w.numbers e.channel) }

-- the port through which a step leaves a node and enters the next
abbrev pub port : Net → Step → Port
port w e = record { span = e.span; label = label_of w e }

-- the node between two steps: that which the second leaves; without a second, that which the first enters
abbrev pub node_between : Net → Option Step → Option Step → ℕ
node_between w before (Some e) = tail_of w e
node_between w (Some e) None = head_of w e
node_between w None None = 255

-- what the cabinet there is told
abbrev pub between : Net → Option Step → Option Step → Setting
between w before after = record {
  node = node_between w before after;
  input = option_map (port w) before;
  output = option_map (port w) after;
}

abbrev pub blank : Setting
blank = record { node = 255; input = None; output = None }

-- the step of a path at a place, and the one before that place
abbrev pub step_at : List Step → ℕ → Option Step
step_at p i = slice_get p i

abbrev pub step_before : List Step → ℕ → Option Step
step_before p zero = None
step_before p (suc i) = step_at p i

-- the setting at a place along a path
abbrev pub setting_along : Net → List Step → ℕ → Setting
setting_along w p i = between w (step_before p i) (step_at p i)

-- a table of the settings along a path; beyond the path's end they are blank by the same rule
abbrev pub slip : Net → List Step → ℕ → List Setting
slip w p room = map (setting_along w p) (range_with_len 0 room)

-- those of the path alone: one more than it has steps
abbrev pub settings : Net → List Step → List Setting
settings w p = slip w p (length p + 1)

abbrev pub setting_at : List Setting → ℕ → Setting
setting_at table i = slice_index_or table i blank

-- a table leads along a path: each step leaves its node by that one's output and comes in by the next one's input
pub record Leads (w : Net) (p : List Step) (table : List Setting) : Type 0 where
  pub begins : (setting_at table 0).input ≡ None
  pub node : (i : ℕ) (e : Step) → step_at p i ≡ Some e → (setting_at table i).node ≡ tail_of w e
  pub output : (i : ℕ) (e : Step) → step_at p i ≡ Some e → (setting_at table i).output ≡ Some (port w e)
  pub input : (i : ℕ) (e : Step) → step_at p i ≡ Some e → (setting_at table (i + 1)).input ≡ Some (port w e)
  pub arrives : (i : ℕ) (e : Step) → step_at p i ≡ Some e → i + 1 ≡ length p → (setting_at table (i + 1)).node ≡ head_of w e
  pub ends : (setting_at table (length p)).output ≡ None

-- the settings along a path are one more than its steps, and lead along it
pub record SettingsLead (w : Net) (p : List Step) : Type 0 where
  pub count : length (settings w p) ≡ length p + 1
  pub leads : Leads w p (settings w p)

-- a table tells a path: it has the path's settings, and then blanks
abbrev pub Tells : Net → List Step → List Setting → Type 0
Tells w p table = table ≡ settings w p ++ replicate (length table - (length p + 1)) blank
