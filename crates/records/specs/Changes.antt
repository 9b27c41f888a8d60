-- What is written in the records where a path is taken, and where it is given back.
use Rattle.std.specs.Prelude.{ℕ, cond, List, [], ◌∷◌, length, Some, None, Option, ◌==◌, slice_set, slice_index_or}
use Rattle.network.specs.declared.counts.Counts.{Counts}
use Rattle.network.specs.declared.step.Step.{Step}
use Rattle.network.specs.Tariffs.{span_entry}
use Rattle.network.specs.Steps.{step}
use Rattle.records.specs.declared.circuit.Route.{Route}
use Rattle.records.specs.Chains.{Channel}

-- the first step of a path, none where there is no step
abbrev pub first_step : List Step → Option Step
first_step [] = None
first_step (s ∷ p) = Some s

-- the table with this record for the channel that a step takes
abbrev pub written : Counts → List Channel → Step → Channel → List Channel
written n channels s r = slice_set channels (span_entry n s.span s.channel) r

-- circuit c holds the channels of a path, and each record leads to the step that follows
abbrev pub taken : Counts → ℕ → List Step → List Channel → List Channel
taken n c [] channels = channels
taken n c (s ∷ p) channels = written n (taken n c p channels) s (Some (record { circuit = c; next = first_step p }))

-- no circuit holds them, and their records are as at the opening
abbrev pub given_back : Counts → List Step → List Channel → List Channel
given_back n [] channels = channels
given_back n (s ∷ p) channels = given_back n p (written n channels s None)

-- the route of a circuit from s to t along a path
abbrev pub route_along : ℕ → ℕ → List Step → Route
route_along s t p = record { from = s; to = t; first = slice_index_or p 0 (step 0 0); steps = length p }

-- f, but v at c
abbrev pub but : {A : Type 0} → ℕ → A → (ℕ → A) → ℕ → A
but c v f d = cond (d == c) v (f d)
