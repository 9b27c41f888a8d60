-- How the records of the channels and those of the circuits fit together.
use Rattle.std.specs.Prelude.{◌≡◌, ℕ, ◌≤◌, Bool, true, false, List, length, Some, None, Option, ◌==◌}
use Rattle.network.specs.declared.counts.Counts.{Counts}
use Rattle.network.specs.declared.step.Step.{Step}
use Rattle.network.specs.Steps.{Within, on, distinct}
use Rattle.network.specs.Tariffs.{arrival_entries}
use Rattle.records.specs.declared.circuit.Circuit.{Circuit}
use Rattle.records.specs.declared.circuit.Route.{Route}
use Rattle.records.specs.Chains.{Channel, holder, channel_at, chain, after, route_of, path_of}

-- a record names circuit c, by its holder
abbrev pub names : ℕ → Option ℕ → Bool
names c None = false
names c (Some d) = c == d

-- the records chain a route's steps, at least one and no more than the network has arrivals, and nothing follows the last
pub record Whole (n : Counts) (channels : List Channel) (r : Route) : Type 0 where
  pub some : 1 ≤ r.steps
  pub short : r.steps ≤ arrival_entries n
  pub all : length (chain n channels r.steps (Some r.first)) ≡ r.steps
  pub ended : after n channels r.steps (Some r.first) ≡ None

-- every step of a path takes a channel of the network
abbrev pub AllWithin : Counts → List Step → Type 0
AllWithin n p = (s : Step) → on s p ≡ true → Within n s

-- so it is for the path of each circuit
abbrev pub StepsWithin : Counts → List Channel → List Circuit → Type 0
StepsWithin n channels circuits = (c : ℕ) → AllWithin n (path_of n channels circuits c)

-- no path takes a step twice
abbrev pub StepsApart : Counts → List Channel → List Circuit → Type 0
StepsApart n channels circuits = (c : ℕ) → distinct (path_of n channels circuits c) ≡ true

-- the path of a circuit that stands is whole
abbrev pub RoutesWhole : Counts → List Channel → List Circuit → Type 0
RoutesWhole n channels circuits = (c : ℕ) (r : Route) → route_of circuits c ≡ Some r → Whole n channels r

-- the record of a channel names a circuit just where the channel lies on the circuit's path
abbrev pub HoldersNamed : Counts → List Channel → List Circuit → Type 0
HoldersNamed n channels circuits =
    (c : ℕ) (s : Step) → Within n s → names c (holder (channel_at n channels s)) ≡ on s (path_of n channels circuits c)

-- the records fit together
pub record Sound (n : Counts) (channels : List Channel) (circuits : List Circuit) : Type 0 where
  pub within : StepsWithin n channels circuits
  pub apart : StepsApart n channels circuits
  pub whole : RoutesWhole n channels circuits
  pub named : HoldersNamed n channels circuits
