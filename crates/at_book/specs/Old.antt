-- A label that earlier use left.
use Rattle.std.specs.Prelude.{◌≡◌, true, Some, None, Option}
use Rattle.network.specs.declared.step.Step.{Step}
use Rattle.semilightpath.specs.declared.point.Point.{Point}
use Rattle.search.specs.declared.label.Known.{Known}
use Rattle.cost.specs.Laws.{Ops}

abbrev pub old_step : Step
old_step = record { span = 7; channel = 7 }

abbrev pub old_point : Point
old_point = record { node = 7; entered = Some 7 }

abbrev pub old_label : {V : Type 0} → Ops V → Option (Known V)
old_label o = Some (record { cost = o.start; step = old_step; from = old_point; settled = true })

-- a label is such a one, at a cost that is at most the start
abbrev pub IsOld : {V : Type 0} → Ops V → Option (Known V) → Type 0
IsOld o None = ⊥
IsOld o (Some k) = (o.at_most k.cost o.start ≡ true) × (k.step ≡ old_step) × (k.from ≡ old_point) × (k.settled ≡ true)
