-- A path to a node enters it by its last step.
use Rattle.std.proofs.Common.{◌≡◌, ◌≢◌, ℕ, ◌≤◌, List, [], ◌∷◌, length, refl, ◌∙◌, arith}
use Rattle.network.specs.declared.step.Step.{Step}
use Rattle.semilightpath.specs.declared.point.Point.{Point}
use Rattle.semilightpath.specs.Scenes.{Scene}
use Rattle.semilightpath.specs.Paths.{head_of, begin, past, end_of, IsUsable, Goes}
use Rattle.semilightpath.specs.Cheapest.{HasNone}

last : (g : Scene) (a : Point) (p : List Step) → Goes g a p → 1 ≤ length p → (e : Step) × IsUsable g e × (head_of g.net e ≡ (end_of g.net a p).node)
last g a [] goes l = absurd (omega (arith, l))
last g a (e ∷ []) goes l = (e, goes.0.0, refl)
last g a (e ∷ d ∷ p) goes l = last g (past g.net e) (d ∷ p) goes.1 (omega arith)

-- so none leads where no step can be taken to
pub none_entered : (g : Scene) (s t : ℕ) → ((e : Step) → IsUsable g e → head_of g.net e ≢ t) → HasNone g s t
none_entered g s t never q h = let r = last g (begin s) q h.1 h.0 in never r.0 r.1 (r.2 ∙ h.2)
