-- What a semilightpath costs.
use Rattle.std.specs.Prelude.{ℕ, cond, List, [], ◌∷◌, ◌++◌, Some, None, Option, ◌==◌}
use Rattle.std.specs.Option.{unwrap_or}
use Rattle.network.specs.Net.{Net, converter_of}
use Rattle.network.specs.declared.step.Step.{Step}
use Rattle.cost.specs.Laws.{Ops}
use Rattle.cost.specs.Charges.{after_all}
use Rattle.cost.specs.declared.charge.Charge.{Charge}
use Rattle.cost.specs.declared.charge.Charge.TheVariants.{Span, Conversion}
use Rattle.semilightpath.specs.declared.point.Point.{Point}
use Rattle.semilightpath.specs.Scenes.{Scene}
use Rattle.semilightpath.specs.Paths.{tail_of}

-- the largest tariff, which stands for one that is not there
abbrev pub largest_tariff : ℕ
largest_tariff = 65534

-- what changing channels at a node charges: nothing where they are one or none was entered on, else the converter's tariff
abbrev pub conversion : Net → ℕ → Option ℕ → ℕ → List Charge
conversion w u None c = []
conversion w u (Some b) c = cond (b == c) [] (Conversion (unwrap_or (converter_of w u b c) largest_tariff) ∷ [])

-- a value after a path that stands at a point was left on a channel
abbrev pub left : {V : Type 0} → Ops V → Net → Point → V → ℕ → V
left o w a v c = after_all o v (conversion w a.node a.entered c)

-- what one more step charges, after the channel that was entered on
abbrev pub step_charges : Scene → Option ℕ → Step → List Charge
step_charges g b e = conversion g.net (tail_of g.net e) b e.channel ++ Span (unwrap_or (g.fare e) largest_tariff) ∷ []

-- what steps charge
abbrev pub charges : Scene → Option ℕ → List Step → List Charge
charges g b [] = []
charges g b (e ∷ p) = step_charges g b e ++ charges g (Some e.channel) p

-- a value after one more step
abbrev pub after_step : {V : Type 0} → Ops V → Scene → Option ℕ → V → Step → V
after_step o g b v e = after_all o v (step_charges g b e)

-- the cost of a path: what its steps charge, built up from left to right out of the start value
abbrev pub cost : {V : Type 0} → Ops V → Scene → List Step → V
cost o g p = after_all o o.start (charges g None p)
