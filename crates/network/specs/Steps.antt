-- Steps, and the paths that they make.
use Rattle.std.specs.Prelude.{ℕ, ◌<◌, Bool, true, false, not, ◌&&◌, ◌||◌, List, [], ◌∷◌, ◌==◌}
use Rattle.network.specs.declared.counts.Counts.{Counts}
use Rattle.network.specs.declared.step.Step.{Step}

abbrev pub step : ℕ → ℕ → Step
step e c = record { span = e; channel = c }

-- a step takes a channel of the network
abbrev pub Within : Counts → Step → Type 0
Within n s = (s.span < n.spans) × (s.channel < n.channels)

abbrev pub same : Step → Step → Bool
same s t = s.span == t.span && s.channel == t.channel

-- a step lies on a path
abbrev pub on : Step → List Step → Bool
on s [] = false
on s (t ∷ p) = same s t || on s p

-- no step lies on a path twice
abbrev pub distinct : List Step → Bool
distinct [] = true
distinct (s ∷ p) = not (on s p) && distinct p
