-- Tables in which all is free fit together.
use Rattle.std.proofs.Common.{◌≡◌, ℕ, ◌<◌, ltb, List, [], get_or, None, sym, ap, ◌∙◌, inl, inr}
use Rattle.std.proofs.lemmas.Option.{none-some}
use Rattle.std.proofs.lemmas.Bool.{cases_lt, lt-ltb, le-ltb, cond-true, cond-false, false≢true}
use Rattle.network.specs.declared.counts.Counts.{Counts}
use Rattle.network.specs.Steps.{on, distinct}
use Rattle.network.specs.Tariffs.{span_entries}
use Rattle.network.proofs.Entries.{span_entry_lem}
use Rattle.records.specs.declared.circuit.Circuit.{Circuit}
use Rattle.records.specs.declared.circuit.Circuit.TheVariants as circuit
use Rattle.records.specs.Chains.{Channel, standing, holder, along, circuit_count, circuit_at, route_of, path_of}
use Rattle.records.specs.Sound.{names, Sound}

no_route : (circuits : List Circuit) → ((c : ℕ) → c < circuit_count → circuit_at circuits c ≡ circuit.Free) → (c : ℕ) → route_of circuits c ≡ None
no_route circuits free c =
    elim (cases_lt c circuit_count) [
      | inl h ↦ cond-true (ltb c circuit_count) (standing (circuit_at circuits c)) None (lt-ltb c circuit_count h) ∙ ap standing (free c h)
      | inr h ↦ cond-false (ltb c circuit_count) (standing (circuit_at circuits c)) None (le-ltb c circuit_count h)
    ]

pub fresh : (n : Counts) (channels : List Channel) (circuits : List Circuit)
    → ((i : ℕ) → i < span_entries n → get_or channels i None ≡ None)
    → ((c : ℕ) → c < circuit_count → circuit_at circuits c ≡ circuit.Free) → Sound n channels circuits
fresh n channels circuits free unused =
    let route : (c : ℕ) → route_of circuits c ≡ None = no_route circuits unused in
    let path : (c : ℕ) → path_of n channels circuits c ≡ [] = λ c. ap (along n channels) (route c) in
    record {
      within = λ c s h. absurd (false≢true (sym (ap (on s) (path c)) ∙ h));
      apart = λ c. ap distinct (path c);
      whole = λ c r e. absurd (none-some r (sym (route c) ∙ e));
      named = λ c s w. ap (λ x. names c (holder x)) (free _ (span_entry_lem n s.span s.channel w.0 w.1)) ∙ sym (ap (on s) (path c));
    }
