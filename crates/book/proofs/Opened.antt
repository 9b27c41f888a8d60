-- The tables of a book that has just been opened.
use Rattle.std.proofs.Common.{◌≡◌, ℕ, ◌<◌, ◌≤◌, min, Bool, true, false, cond, List, length, get_or, drop, replicate, None, Ok, Err, refl, ap, ◌∙◌, arith}
use Rattle.std.proofs.lemmas.List.{get_or_append_left, get_or-replicate, length-replicate}
use Rattle.std.proofs.lemmas.Bool.{and_parts, leb-true}
use Rattle.fault.specs.declared.book.BookFault.TheVariants.{BookTable}
use Rattle.network.specs.declared.counts.Counts.{Counts}
use Rattle.network.specs.Tariffs.{span_entries}
use Rattle.network.specs.Tables.{filled}
use Rattle.network.proofs.Filled.{length-filled}
use Rattle.records.specs.declared.circuit.Circuit.TheVariants as circuit
use Rattle.records.specs.declared.state.SpanState.TheVariants as span
use Rattle.records.specs.Chains.{circuit_count}
use Rattle.records.specs.Sound.{Sound}
use Rattle.records.proofs.Fresh.{fresh}
use Rattle.book.specs.State.{Tables}
use Rattle.book.specs.Opening.{fits, room, opened}

-- an entry that was filled
pub filled_at : {X : Type 0} (n : ℕ) (v d : X) (old table : List X) → n ≤ length old → table ≡ filled n v old → (i : ℕ) → i < n → get_or table i d ≡ v
filled_at {X} n v d old table long e i h =
    let m : ℕ = min n (length old) in
    let lt : i < m = omega arith in
    let front : i < length (replicate m v) = rw length-replicate lt in
    ap (λ (l : List X). get_or l i d) e ∙ get_or_append_left (replicate m v) (drop m old) d i front ∙ get_or-replicate m i v d lt

accepted : {A F : Type 0} (x : A) (f : F) (b : Bool) → cond b (Ok x) (Err f) ≡ Ok x → b ≡ true
accepted x f true e = refl
accepted x f false e = cc

-- where there is room, each table is long enough
pub roomy : (n : Counts) (t : Tables) → room n t ≡ Ok tt → (span_entries n ≤ length t.channels) × (circuit_count ≤ length t.circuits) × (n.spans ≤ length t.spans)
roomy n t e =
    let a = and_parts _ _ (accepted tt BookTable (fits n t) e) in
    let b = and_parts _ _ a.1 in
    (leb-true _ _ a.0, leb-true _ _ b.0, leb-true _ _ b.1)

-- and so are the tables of a book that is opened on them
pub opened_long : (n : Counts) (t t' : Tables) → room n t ≡ Ok tt → t' ≡ opened n t → (span_entries n ≤ length t'.channels) × (circuit_count ≤ length t'.circuits) × (n.spans ≤ length t'.spans)
opened_long n t t' r e =
    let long = roomy n t r in
    let channels = ap (λ (x : Tables). length x.channels) e ∙ length-filled (span_entries n) None t.channels in
    let circuits = ap (λ (x : Tables). length x.circuits) e ∙ length-filled circuit_count circuit.Free t.circuits in
    let spans = ap (λ (x : Tables). length x.spans) e ∙ length-filled n.spans span.Open t.spans in
    (omega (arith, long.0, channels), omega (arith, long.1, circuits), omega (arith, long.2, spans))

-- where there is room, an opened book's tables fit together
pub opened_sound : (n : Counts) (t t' : Tables) → room n t ≡ Ok tt → t' ≡ opened n t → Sound n t'.channels t'.circuits
opened_sound n t t' r e =
    let long = roomy n t r in
    fresh n t'.channels t'.circuits
    (filled_at _ _ _ _ _ long.0 (ap (λ (x : Tables). x.channels) e))
    (filled_at _ _ _ _ _ long.1 (ap (λ (x : Tables). x.circuits) e))
