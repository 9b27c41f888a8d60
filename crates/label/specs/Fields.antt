-- A label's four fields, each by its width and its position.
use Rattle.std.specs.Prelude.{ℕ, ◌*◌, ◌/◌, ◌%◌, ◌^◌}

-- how far the field's lowest bit stands from the label's, and how many bits the field has
pub record Field : Type 0 where
  pub at : ℕ
  pub width : ℕ

abbrev pub field : ℕ → ℕ → Field
field at width = record { at = at; width = width }

-- what a field of a label holds
abbrev pub part : Field → ℕ → ℕ
part f bits = bits / 2 ^ f.at % 2 ^ f.width

-- a number put into its field, which has room for its lowest bits
abbrev pub field_bits : Field → ℕ → ℕ
field_bits f x = x % 2 ^ f.width * 2 ^ f.at

abbrev pub grid : Field
grid = field 29 3

abbrev pub spacing : Field
spacing = field 25 4

abbrev pub identifier : Field
identifier = field 16 9

abbrev pub number : Field
number = field 0 16
