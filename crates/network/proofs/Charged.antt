-- What is charged is below absent.
use Rattle.std.proofs.Common.{◌≡◌, ℕ, ◌<◌, Some, None, Option, arith}
use Rattle.std.proofs.lemmas.Bool.Decides.{nat_tests}
use Rattle.std.specs.Option.{IfSome}
use Rattle.network.specs.Net.{Net, tariff_of, converter_of}
use Rattle.network.specs.Tariffs.{absent}

tariff_of_below : (w : Net) (e c v : ℕ) → tariff_of w e c ≡ Some v → v < absent
tariff_of_below w e c v told = grind (arith, nat_tests)

converter_of_below : (w : Net) (u a b v : ℕ) → converter_of w u a b ≡ Some v → v < absent
converter_of_below w u a b v told = grind (arith, nat_tests)

within : (o : Option ℕ) → ((v : ℕ) → o ≡ Some v → v < absent) → IfSome o (λ v. v < absent)
within None h = tt
within (Some v) h = h v (λ _. Some v)

pub IfSome-tariff_of : (w : Net) (e c : ℕ) → IfSome (tariff_of w e c) (λ v. v < absent)
IfSome-tariff_of w e c = within (tariff_of w e c) (tariff_of_below w e c)

pub IfSome-converter_of : (w : Net) (u a b : ℕ) → IfSome (converter_of w u a b) (λ v. v < absent)
IfSome-converter_of w u a b = within (converter_of w u a b) (converter_of_below w u a b)
