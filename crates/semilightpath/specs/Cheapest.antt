-- What a search for a cheapest semilightpath answers, whatever its method.
use Rattle.std.specs.Prelude.{◌≡◌, ℕ, true, List}
use Rattle.network.specs.Steps.{distinct}
use Rattle.network.specs.declared.step.Step.{Step}
use Rattle.cost.specs.Laws.{Ops}
use Rattle.semilightpath.specs.Scenes.{Scene}
use Rattle.semilightpath.specs.Paths.{IsSemilightpath}
use Rattle.semilightpath.specs.Costs.{cost}

-- p is a cheapest semilightpath from s to t, and v its cost: no other, of any length, costs less
pub record IsCheapest {V : Type 0} (o : Ops V) (g : Scene) (s t : ℕ) (p : List Step) (v : V) : Type 0 where
  pub path : IsSemilightpath g s t p
  pub once : distinct p ≡ true
  pub priced : cost o g p ≡ v
  pub least : (q : List Step) → IsSemilightpath g s t q → o.at_most v (cost o g q) ≡ true

-- v is the least cost from s to t: what a cheapest semilightpath costs
abbrev pub IsLeastCost : {V : Type 0} → Ops V → Scene → ℕ → ℕ → V → Type 0
IsLeastCost o g s t v = (p : List Step) × IsCheapest o g s t p v

-- no semilightpath leads from s to t
abbrev pub HasNone : Scene → ℕ → ℕ → Type 0
HasNone g s t = (q : List Step) → IsSemilightpath g s t q → ⊥
