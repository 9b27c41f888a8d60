-- What a semilightpath is.
use Rattle.std.specs.Prelude.{◌≡◌, ℕ, ◌≤◌, ◌⊎◌, List, [], ◌∷◌, length, Some, None}
use Rattle.std.specs.Option.{IsSome, IfSome}
use Rattle.network.specs.Net.{Net, converter_of}
use Rattle.network.specs.Limits.{span_at}
use Rattle.network.specs.Steps.{Within}
use Rattle.network.specs.declared.step.Step.{Step}
use Rattle.semilightpath.specs.declared.point.Point.{Point}
use Rattle.semilightpath.specs.Scenes.{Scene}

-- the node that a step leaves
abbrev pub tail_of : Net → Step → ℕ
tail_of w e = (span_at w.ends e.span).tail

-- the node that a step enters
abbrev pub head_of : Net → Step → ℕ
head_of w e = (span_at w.ends e.span).head

-- a step's channel is one of the network, and can be used
abbrev pub IsUsable : Scene → Step → Type 0
IsUsable g e = Within g.net.counts e × IsSome (g.fare e)

-- where a path begins: nothing has been entered yet
abbrev pub begin : ℕ → Point
begin s = record { node = s; entered = None }

-- where a path stands after a step
abbrev pub past : Net → Step → Point
past w e = record { node = head_of w e; entered = Some e.channel }

-- the channel on which the node was entered is the one that follows, or the node has that one converter
abbrev pub Joins : Net → Point → ℕ → Type 0
Joins w a c = IfSome a.entered (λ b. (b ≡ c) ⊎ IsSome (converter_of w a.node b c))

-- a path that stands at a point can go on by a step
abbrev pub GoesOn : Scene → Point → Step → Type 0
GoesOn g a e = IsUsable g e × (tail_of g.net e ≡ a.node) × Joins g.net a e.channel

-- and by these steps, one after the other
abbrev pub Goes : Scene → Point → List Step → Type 0
Goes g a [] = Unit {0}
Goes g a (e ∷ p) = GoesOn g a e × Goes g (past g.net e) p

-- where a path stands after steps
abbrev pub end_of : Net → Point → List Step → Point
end_of w a [] = a
end_of w a (e ∷ p) = end_of w (past w e) p

-- one or more steps that lead from s to t
abbrev pub IsSemilightpath : Scene → ℕ → ℕ → List Step → Type 0
IsSemilightpath g s t p = (1 ≤ length p) × Goes g (begin s) p × ((end_of g.net (begin s) p).node ≡ t)
