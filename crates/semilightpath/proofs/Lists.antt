-- A step lies on a path where the library finds it there.
use Rattle.std.proofs.Common.{◌≡◌, List, [], ◌∷◌, refl, arith}
use Rattle.std.specs.List.{list_any}
use Rattle.std.proofs.lemmas.Bool.Decides.{nat_tests}
use Rattle.network.specs.Steps.{same, on}
use Rattle.network.specs.declared.step.Step.{Step}

same_turned : (s t : Step) → same t s ≡ same s t
same_turned s t = grind (arith, nat_tests)

pub list_any-same : (s : Step) (p : List Step) → list_any (λ t. same t s) p ≡ on s p
list_any-same s [] = refl
list_any-same s (t ∷ p) = rw (same_turned s t, list_any-same s p)
