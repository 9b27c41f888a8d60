-- A path that is taken and given back leaves the records as they were.
use Rattle.std.proofs.Common.{◌≡◌, ℕ, true, not, List, [], ◌∷◌, Some, None, slice_set, set, refl, sym, ap, ◌∙◌}
use Rattle.std.proofs.lemmas.Bool.{and_parts, not-true}
use Rattle.std.proofs.lemmas.List.{set-get_or, set-set}
use Rattle.network.specs.declared.counts.Counts.{Counts}
use Rattle.network.specs.declared.step.Step.{Step}
use Rattle.network.specs.Steps.{on, distinct}
use Rattle.network.specs.Tariffs.{span_entry}
use Rattle.records.specs.declared.circuit.Circuit.{Circuit}
use Rattle.records.specs.declared.circuit.Circuit.TheVariants as circuit
use Rattle.records.specs.Chains.{Channel, channel_at, circuit_at}
use Rattle.records.specs.Changes.{first_step, written, taken, given_back}
use Rattle.records.specs.Sound.{AllWithin}
use Rattle.records.proofs.Taken.{on_first, on_rest, within_rest, taken_off}

-- a record that is written and freed again, and was free before
freed_again : (n : Counts) (channels : List Channel) (s : Step) (h : Channel) → channel_at n channels s ≡ None → written n (written n channels s h) s None ≡ channels
freed_again n channels s h e =
    set-set channels (span_entry n s.span s.channel) h None ∙ ap (set channels (span_entry n s.span s.channel)) (sym e) ∙ set-get_or channels (span_entry n s.span s.channel) None

pub given_taken : (n : Counts) (c : ℕ) (p : List Step) (channels : List Channel) → AllWithin n p → distinct p ≡ true → ((s : Step) → on s p ≡ true → channel_at n channels s ≡ None) → given_back n p (taken n c p channels) ≡ channels
given_taken n c [] channels within once unheld = refl
given_taken n c (s ∷ p) channels within once unheld =
    let parts = and_parts (not (on s p)) (distinct p) once in
    let free = taken_off n c p channels (within_rest n s p within) s (within s (on_first s p)) (not-true (on s p) parts.0) ∙ unheld s (on_first s p) in
    ap (given_back n p) (freed_again n (taken n c p channels) s (Some (record { circuit = c; next = first_step p })) free)
    ∙ given_taken n c p channels (within_rest n s p within) parts.1 (λ u o. unheld u (on_rest u s p o))

-- the same of a circuit's record
pub freed_circuit : (circuits : List Circuit) (c : ℕ) (k : Circuit) → circuit_at circuits c ≡ circuit.Free → slice_set (slice_set circuits c k) c circuit.Free ≡ circuits
freed_circuit circuits c k e = set-set circuits c k circuit.Free ∙ ap (set circuits c) (sym e) ∙ set-get_or circuits c circuit.Free
