-- What comes of an order.
use Rattle.std.specs.Prelude.{◌≡◌, ℕ, List, [], ◌∷◌, Some, None, Option}
use Rattle.fault.specs.declared.book.BookFault.{BookFault}
use Rattle.fault.specs.declared.book.BookFault.TheVariants.{NoPath}
use Rattle.network.specs.declared.step.Step.{Step}
use Rattle.cost.specs.Laws.{Ops}
use Rattle.semilightpath.specs.Scenes.{Scene}
use Rattle.semilightpath.specs.Cheapest.{IsCheapest, HasNone}
use Rattle.book.specs.Changes.{Change, takes, lights}

-- an order from s to t, where this refusal is due, if any: it is refused so, or there is no path, or a cheapest one is found and P holds of it and its cost
pub data Ordered {V : Type 0} (o : Ops V) (g : Scene) (s t : ℕ) (due : Option BookFault) (P : List Step → V → Type 0) (Refused : BookFault → Type 0) : Type 0 where
  is_refused : (f : BookFault) → due ≡ Some f → Refused f → Ordered o g s t due P Refused
  has_none : due ≡ None → HasNone g s t → Refused NoPath → Ordered o g s t due P Refused
  is_found : due ≡ None → (p : List Step) (v : V) → IsCheapest o g s t p v → P p v → Ordered o g s t due P Refused

-- a circuit takes a path and is lit
abbrev pub lit_changes : ℕ → ℕ → ℕ → List Step → List Change
lit_changes c s t p = takes c s t p ∷ lights c ∷ []
