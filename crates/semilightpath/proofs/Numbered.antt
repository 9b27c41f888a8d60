-- A cheapest semilightpath is one too where costs are told as numbers.
use Rattle.std.proofs.Common.{◌≡◌, ℕ, true, List, ap, ◌∙◌}
use Rattle.network.specs.declared.step.Step.{Step}
use Rattle.cost.specs.Laws.{Ops}
use Rattle.cost.specs.Numbers.{Numbering, in_numbers}
use Rattle.cost.proofs.Numbered.{all_numbered}
use Rattle.semilightpath.specs.Scenes.{Scene}
use Rattle.semilightpath.specs.Costs.{charges, cost}
use Rattle.semilightpath.specs.Cheapest.{IsCheapest, IsLeastCost}
use Rattle.std.specs.Prelude.{None}

module _ {V : Type 0} (c : Numbering V) (o : Ops V) (g : Scene) where
  pub cost_numbered : (p : List Step) → cost (in_numbers c o) g p ≡ c.number (cost o g p)
  cost_numbered p = all_numbered c o o.start (charges g None p)

  pub cheapest_numbered : (s t : ℕ) (p : List Step) (v : V) → IsCheapest o g s t p v → IsCheapest (in_numbers c o) g s t p (c.number v)
  cheapest_numbered s t p v best = record {
    path = best.path;
    once = best.once;
    priced = cost_numbered p ∙ ap c.number best.priced;
    least = λ q is. at_most_numbered q (best.least q is);
  }
    where
      at_most_numbered : (q : List Step) → o.at_most v (cost o g q) ≡ true → o.at_most (c.value (c.number v)) (c.value (cost (in_numbers c o) g q)) ≡ true
      at_most_numbered q h = ap (λ u. o.at_most u (c.value (cost (in_numbers c o) g q))) (c.back v) ∙ ap (o.at_most v) (ap c.value (cost_numbered q) ∙ c.back (cost o g q)) ∙ h

  pub least_numbered : (s t : ℕ) (v : V) → IsLeastCost o g s t v → IsLeastCost (in_numbers c o) g s t (c.number v)
  least_numbered s t v least = (least.0, cheapest_numbered s t least.0 v least.1)
