-- What stands: the circuits that have a path.
use Rattle.std.specs.Prelude.{ℕ, List, Some, None, Option}
use Rattle.network.specs.declared.counts.Counts.{Counts}
use Rattle.network.specs.declared.step.Step.{Step}
use Rattle.records.specs.declared.circuit.Circuit.{Circuit}
use Rattle.records.specs.declared.circuit.Route.{Route}
use Rattle.records.specs.Chains.{Channel, chain, route_of}

-- a circuit that stands: its path, and the nodes that were ordered
pub record Standing : Type 0 where
  pub from : ℕ
  pub to : ℕ
  pub path : List Step

abbrev pub standing_on : ℕ → ℕ → List Step → Standing
standing_on s t p = record { from = s; to = t; path = p }

abbrev pub standing_of : Counts → List Channel → Option Route → Option Standing
standing_of n channels None = None
standing_of n channels (Some r) = Some (standing_on r.from r.to (chain n channels r.steps (Some r.first)))

-- circuit c as it stands by the records, none where it is free or there is no such circuit
abbrev pub stands : Counts → List Channel → List Circuit → ℕ → Option Standing
stands n channels circuits c = standing_of n channels (route_of circuits c)
