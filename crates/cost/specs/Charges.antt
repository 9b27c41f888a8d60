-- What a run of charges comes to.
use Rattle.std.specs.Prelude.{◌≡◌, ℕ, ◌<◌, true, List, fold}
use Rattle.std.specs.List.{AllByRecursion}
use Rattle.network.specs.Tariffs.{absent}
use Rattle.cost.specs.Laws.{Ops}
use Rattle.cost.specs.declared.charge.Charge.{Charge}
use Rattle.cost.specs.declared.charge.Charge.TheVariants.{Span, Conversion}

abbrev pub after : {V : Type 0} → Ops V → V → Charge → V
after o v (Span w) = o.span v w
after o v (Conversion w) = o.conversion v w

-- from left to right
abbrev pub after_all : {V : Type 0} → Ops V → V → List Charge → V
after_all o v cs = fold (after o) v cs

abbrev pub amount_of : Charge → ℕ
amount_of (Span w) = w
amount_of (Conversion w) = w

-- every charge is a tariff
abbrev pub AllTariffs : List Charge → Type 0
AllTariffs cs = AllByRecursion (λ c. amount_of c < absent) cs

-- after the same charges, whatever is at most v is at most r
abbrev pub KeepsOrder : {V : Type 0} → Ops V → List Charge → V → V → Type 0
KeepsOrder {V} o cs v r = (u : V) → o.at_most u v ≡ true → o.at_most (after_all o u cs) r ≡ true
