-- What has a fare is carried by the network, at that tariff; so a fare is a tariff.
use Rattle.std.specs.Option.{IfSome}
use Rattle.std.proofs.Common.{◌≡◌, ℕ, ◌<◌, Some, None, Option, refl, subst}
use Rattle.network.specs.Net.{Net, tariff_of}
use Rattle.network.specs.Tariffs.{absent}
use Rattle.network.proofs.Charged.{IfSome-tariff_of}
use Rattle.network.specs.declared.step.Step.{Step}

-- of a network alone
pub carried_alone : (x : Option ℕ) → IfSome x (λ w. x ≡ Some w)
carried_alone None = tt
carried_alone (Some w) = refl

some_charged : (x y : Option ℕ) → IfSome x (λ w. y ≡ Some w) → IfSome y (λ w. w < absent) → IfSome x (λ w. w < absent)
some_charged None y is below = tt
some_charged (Some w) y is below = subst (λ z. IfSome z (λ v. v < absent)) is below

pub charged_by : (w : Net) (fare : Step → Option ℕ) → ((e : Step) → IfSome (fare e) (λ v. tariff_of w e.span e.channel ≡ Some v)) → (e : Step) → IfSome (fare e) (λ v. v < absent)
charged_by w fare carried e = some_charged (fare e) (tariff_of w e.span e.channel) (carried e) (IfSome-tariff_of w e.span e.channel)
