-- The converters of a network are those that its plan lists.
use Rattle.std.specs.Prelude.{◌≡◌, ℕ, ◌<◌, Some}
use Rattle.network.specs.Net.{Net, converter_of}
use Rattle.plan.specs.declared.record.Converter.{Converter}
use Rattle.plan.specs.Plan.{Read}
use Rattle.plan.specs.Records.{converter_in}

abbrev pub converter : ℕ → ℕ → ℕ → ℕ → Converter
converter u a b t = record { node = u; from = a; to = b; tariff = t }

pub record Faithful (p : Read) (w : Net) : Type 0 where
  -- each converter that is listed is there, at its tariff
  pub all : (i u a b t : ℕ) → i < p.header.converters → converter_in p.converters i ≡ converter u a b t → converter_of w u a b ≡ Some t
  -- and there is no other
  pub only : (u a b t : ℕ) → converter_of w u a b ≡ Some t → (i : ℕ) × (i < p.header.converters) × (converter_in p.converters i ≡ converter u a b t)
