-- The path of a circuit, as the records of the channels chain it.
use Rattle.std.specs.Prelude.{ℕ, zero, suc, cond, List, [], ◌∷◌, Some, None, Option, nat_lt, slice_index_or}
use Rattle.network.specs.declared.counts.Counts.{Counts}
use Rattle.network.specs.declared.step.Step.{Step}
use Rattle.network.specs.Tariffs.{span_entry}
use Rattle.records.specs.declared.channel.Hold.{Hold}
use Rattle.records.specs.declared.circuit.Circuit.{Circuit}
use Rattle.records.specs.declared.circuit.Circuit.TheVariants as circuit
use Rattle.records.specs.declared.circuit.Route.{Route}

-- the route of a circuit that stands
abbrev pub standing : Circuit → Option Route
standing circuit.Free = None
standing (circuit.Offered r) = Some r
standing (circuit.Lit r) = Some r

-- the record of a channel: what holds it, none where it is free
abbrev pub Channel : Type 0
Channel = Option Hold

-- the circuit that holds a channel
abbrev pub holder : Channel → Option ℕ
holder None = None
holder (Some h) = Some h.circuit

-- the step that follows on that circuit's path
abbrev pub next : Channel → Option Step
next None = None
next (Some h) = h.next

-- the record that stands in the entry of a step's channel; past the end of the table all is free
abbrev pub channel_at : Counts → List Channel → Step → Channel
channel_at n channels s = slice_index_or channels (span_entry n s.span s.channel) None

-- at most m steps of a chain, from the one that is next
unfoldable pub chain : Counts → List Channel → ℕ → Option Step → List Step
chain n channels zero s = []
chain n channels (suc m) None = []
chain n channels (suc m) (Some s) = s ∷ chain n channels m (next (channel_at n channels s))

-- the step that is next after m steps of a chain
unfoldable pub after : Counts → List Channel → ℕ → Option Step → Option Step
after n channels zero s = s
after n channels (suc m) None = None
after n channels (suc m) (Some s) = after n channels m (next (channel_at n channels s))

-- the steps that the records chain for a route
abbrev pub along : Counts → List Channel → Option Route → List Step
along n channels None = []
along n channels (Some r) = chain n channels r.steps (Some r.first)

-- a book has 128 circuits
abbrev pub circuit_count : ℕ
circuit_count = 128

abbrev pub circuit_at : List Circuit → ℕ → Circuit
circuit_at circuits c = slice_index_or circuits c circuit.Free

-- the route of circuit c, where there is such a circuit and it stands
abbrev pub route_of : List Circuit → ℕ → Option Route
route_of circuits c = cond (nat_lt c circuit_count) (standing (circuit_at circuits c)) None

-- the path of circuit c; none where it does not stand
abbrev pub path_of : Counts → List Channel → List Circuit → ℕ → List Step
path_of n channels circuits c = along n channels (route_of circuits c)

-- how many steps a route has, and none where there is no route
abbrev pub steps_of : Option Route → ℕ
steps_of None = 0
steps_of (Some r) = r.steps
