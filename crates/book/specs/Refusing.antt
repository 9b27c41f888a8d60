-- What the calls on circuits refuse before anything else, each in rising number.
use Rattle.std.specs.Prelude.{ℕ, ◌+◌, Bool, true, false, not, ◌&&◌, List, [], ◌∷◌, ◌++◌, length, Option, is_some, ◌==◌, nat_lt, nat_le}
use Rattle.fault.specs.Judging.{Judgement, judge, first}
use Rattle.fault.specs.declared.book.BookFault.{BookFault}
use Rattle.fault.specs.declared.book.BookFault.TheVariants as fault
use Rattle.network.specs.declared.counts.Counts.{Counts}
use Rattle.network.specs.declared.step.Step.{Step}
use Rattle.network.specs.Tariffs.{arrival_entries}
use Rattle.records.specs.declared.circuit.Circuit.{Circuit}
use Rattle.records.specs.declared.circuit.Circuit.TheVariants as circuit
use Rattle.records.specs.Chains.{circuit_count, standing}
use Rattle.book.specs.declared.offer.Offer.{Offer}
use Rattle.book.specs.Changes.{circuit_in, path_in}
use Rattle.book.specs.State.{Tables}

-- how a circuit is
abbrev pub is_free : Circuit → Bool
is_free circuit.Free = true
is_free (circuit.Offered r) = false
is_free (circuit.Lit r) = false

abbrev pub is_offered : Circuit → Bool
is_offered circuit.Free = false
is_offered (circuit.Offered r) = true
is_offered (circuit.Lit r) = false

abbrev pub is_lit : Circuit → Bool
is_lit circuit.Free = false
is_lit (circuit.Offered r) = false
is_lit (circuit.Lit r) = true

abbrev pub is_standing : Circuit → Bool
is_standing k = is_some (standing k)

abbrev pub same_counts : Counts → Counts → Bool
same_counts m n = m.nodes == n.nodes && (m.spans == n.spans && m.channels == n.channels)

-- the network has the counts m that the book was opened for; there is such a circuit; it is so
abbrev pub of_network : Counts → Counts → Judgement BookFault
of_network m n = judge (same_counts m n) fault.OtherCounts

abbrev pub of_circuit : ℕ → Judgement BookFault
of_circuit c = judge (nat_lt c circuit_count) fault.NoCircuit

abbrev pub of_state : Bool → Judgement BookFault
of_state b = judge b fault.CircuitState

-- s and t are two nodes of the network; there is such a span; the search's table has room
abbrev pub of_ends : Counts → ℕ → ℕ → List (Judgement BookFault)
of_ends n s t = judge (nat_lt s n.nodes && nat_lt t n.nodes) fault.NoNode ∷ judge (not (s == t)) fault.SameNode ∷ []

abbrev pub of_span : Counts → ℕ → Judgement BookFault
of_span m e = judge (nat_lt e m.spans) fault.NoSpan

abbrev pub of_room : Counts → ℕ → Judgement BookFault
of_room n room = judge (nat_le (arrival_entries n) room) fault.WorkTable

-- an order, over a network with counts n, for circuit c, which is free or not, from s to t
abbrev pub of_ordered : Counts → Counts → Bool → ℕ → ℕ → ℕ → List (Judgement BookFault)
of_ordered m n free c s t = of_network m n ∷ of_circuit c ∷ of_state free ∷ of_ends n s t

abbrev pub of_order : Counts → Counts → Tables → ℕ → ℕ → ℕ → List (Judgement BookFault)
of_order m n x c s t = of_ordered m n (is_free (circuit_in x c)) c s t

abbrev pub order_refusal : Counts → Counts → Tables → ℕ → ℕ → ℕ → Option BookFault
order_refusal m n x c s t = first (of_order m n x c s t)

-- an offer, for which the search's table has room for so many labels
abbrev pub offer_refusal : Counts → Counts → Tables → ℕ → ℕ → ℕ → ℕ → Option BookFault
offer_refusal m n x c s t room = first (of_order m n x c s t ++ of_room n room ∷ [])

-- a trial from s to t with span e shut
abbrev pub of_trial : Counts → Counts → ℕ → ℕ → ℕ → List (Judgement BookFault)
of_trial m n s t e = of_network m n ∷ (of_ends n s t ++ of_span m e ∷ [])

abbrev pub trial_refusal : Counts → Counts → ℕ → ℕ → ℕ → ℕ → Option BookFault
trial_refusal m n s t e room = first (of_trial m n s t e ++ of_room n room ∷ [])

-- an offer in hand is spent, whose circuit is offered or not, at a book with this mark
abbrev pub of_spending : ℕ → Bool → Offer → List (Judgement BookFault)
of_spending mark offered o = judge (o.mark == mark) fault.OtherBook ∷ of_state offered ∷ []

abbrev pub spend_refusal : ℕ → Tables → Offer → Option BookFault
spend_refusal mark x o = first (of_spending mark (is_offered (circuit_in x o.circuit)) o)

-- circuit c, which is lit or not, is darkened
abbrev pub of_darkening : Bool → ℕ → List (Judgement BookFault)
of_darkening lit c = of_circuit c ∷ of_state lit ∷ []

abbrev pub darken_refusal : Tables → ℕ → Option BookFault
darken_refusal x c = first (of_darkening (is_lit (circuit_in x c)) c)

abbrev pub look_refusal : ℕ → Option BookFault
look_refusal c = first (of_circuit c ∷ [])

-- circuit c, which stands or not
abbrev pub of_path : Counts → Counts → Bool → ℕ → List (Judgement BookFault)
of_path m n stands c = of_network m n ∷ of_circuit c ∷ of_state stands ∷ []

-- a slip of circuit c
abbrev pub of_slip : Counts → Counts → Tables → ℕ → List (Judgement BookFault)
of_slip m n x c = of_path m n (is_standing (circuit_in x c)) c

-- what its path costs
abbrev pub reckon_refusal : Counts → Counts → Tables → ℕ → Option BookFault
reckon_refusal m n x c = first (of_slip m n x c)

-- into a buffer that has room for so many settings: one more is needed than the path has steps
abbrev pub of_buffer : List Step → ℕ → Judgement BookFault
of_buffer p room = judge (nat_le (length p + 1) room) fault.SlipBuffer

abbrev pub slip_refusal : Counts → Counts → Tables → ℕ → ℕ → Option BookFault
slip_refusal m n x c room = first (of_slip m n x c ++ of_buffer (path_in m x c) room ∷ [])

abbrev pub shut_refusal : Counts → ℕ → Option BookFault
shut_refusal m e = first (of_span m e ∷ [])
