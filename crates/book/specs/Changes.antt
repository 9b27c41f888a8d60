-- What a call changes: in the tables, record by record, and in what stands.
use Rattle.std.specs.Prelude.{◌≡◌, ℕ, Bool, false, List, [], ◌∷◌, None, Some, Option, slice_set}
use Rattle.network.specs.declared.counts.Counts.{Counts}
use Rattle.network.specs.declared.step.Step.{Step}
use Rattle.records.specs.declared.circuit.Circuit.{Circuit}
use Rattle.records.specs.declared.circuit.Circuit.TheVariants as circuit
use Rattle.records.specs.declared.state.SpanState.TheVariants.{Shut}
use Rattle.records.specs.Chains.{circuit_at, path_of}
use Rattle.records.specs.Changes.{taken, given_back, route_along, but}
use Rattle.records.specs.Standing.{Standing, standing_on, stands}
use Rattle.moment.specs.Usable.{span_is_open}
use Rattle.book.specs.State.{Tables, lent}

pub data Change : Type 0 where
  -- a circuit takes a path, from a node to a node, and is offered
  takes : ℕ → ℕ → ℕ → List Step → Change
  -- an offered circuit is lit
  lights : ℕ → Change
  -- a circuit gives its path back, and is free
  frees : ℕ → Change
  -- a span is shut
  shuts : ℕ → Change

-- circuit c as the records have it, and its path; none where it is free
abbrev pub circuit_in : Tables → ℕ → Circuit
circuit_in t c = circuit_at t.circuits c

abbrev pub path_in : Counts → Tables → ℕ → List Step
path_in n t c = path_of n t.channels t.circuits c

abbrev pub standing_in : Counts → Tables → ℕ → Option Standing
standing_in n t c = stands n t.channels t.circuits c

-- an offered circuit, lit
abbrev pub lit : Circuit → Circuit
lit circuit.Free = circuit.Free
lit (circuit.Offered r) = circuit.Lit r
lit (circuit.Lit r) = circuit.Lit r

-- the tables after a change; what they hold beyond stays
abbrev pub changed : Counts → Change → Tables → Tables
changed n (takes c s t p) x = lent (taken n c p x.channels) (slice_set x.circuits c (circuit.Offered (route_along s t p))) x.spans
changed n (lights c) x = lent x.channels (slice_set x.circuits c (lit (circuit_in x c))) x.spans
changed n (frees c) x = lent (given_back n (path_in n x c) x.channels) (slice_set x.circuits c circuit.Free) x.spans
changed n (shuts e) x = lent x.channels x.circuits (slice_set x.spans e Shut)

-- what stands after it
abbrev pub stands_after : Change → (ℕ → Option Standing) → ℕ → Option Standing
stands_after (takes c s t p) f = but c (Some (standing_on s t p)) f
stands_after (lights c) f = f
stands_after (frees c) f = but c None f
stands_after (shuts e) f = f

-- which spans are open after it
abbrev pub open_after : Change → (ℕ → Bool) → ℕ → Bool
open_after (takes c s t p) f = f
open_after (lights c) f = f
open_after (frees c) f = f
open_after (shuts e) f = but e false f

-- the same after changes, one after the other
abbrev pub changed_by : Counts → List Change → Tables → Tables
changed_by n [] x = x
changed_by n (h ∷ hs) x = changed_by n hs (changed n h x)

abbrev pub stands_after_all : List Change → (ℕ → Option Standing) → ℕ → Option Standing
stands_after_all [] f = f
stands_after_all (h ∷ hs) f = stands_after_all hs (stands_after h f)

abbrev pub open_after_all : List Change → (ℕ → Bool) → ℕ → Bool
open_after_all [] f = f
open_after_all (h ∷ hs) f = open_after_all hs (open_after h f)

-- a call makes these changes: so the tables hold what they held but for them, and so what stands, and which spans are open
pub record Makes (n : Counts) (hs : List Change) (x y : Tables) : Type 0 where
  pub tables : y ≡ changed_by n hs x
  pub stands : (c : ℕ) → standing_in n y c ≡ stands_after_all hs (standing_in n x) c
  pub opens : (e : ℕ) → span_is_open y.spans e ≡ open_after_all hs (span_is_open x.spans) e
