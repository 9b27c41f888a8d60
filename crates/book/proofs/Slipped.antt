-- The path of which a slip is written is the circuit's.
use Rattle.std.proofs.lemmas.Bool.{leb-true}
use Rattle.std.proofs.Common.{nat_lt, List, subst, None, ◌+◌, ◌≤◌, length, nat_le, ◌≡◌, ℕ, Some, sym, ap, ◌∙◌}
use Rattle.fault.specs.declared.book.BookFault.TheVariants as fault
use Rattle.fault.proofs.Judged.{cond_none}
use Rattle.network.specs.Net.{Net}
use Rattle.slip.specs.declared.setting.Setting.{Setting}
use Rattle.slip.specs.Slips.{Tells}
use Rattle.network.specs.declared.counts.Counts.{Counts}
use Rattle.records.specs.declared.circuit.Route.{Route}
use Rattle.records.specs.Chains.{along, circuit_count, route_of}
use Rattle.book.specs.State.{Tables}
use Rattle.book.specs.Changes.{circuit_in, path_in}
use Rattle.book.specs.Refusing.{is_standing, same_counts, slip_refusal}
use Rattle.book.proofs.Ordered.{counts_same}

pub slip_path : (m n : Counts) (x : Tables) (c room : ℕ) (r : Route) → slip_refusal m n x c room ≡ None → route_of x.circuits c ≡ Some r → along n x.channels (Some r) ≡ path_in m x c
slip_path m n x c room r due e =
    let same = counts_same m n (cond_none (same_counts m n) fault.OtherCounts _ due).0 in
    ap (λ k. along k x.channels (Some r)) (sym same) ∙ sym (ap (along m x.channels) e)

-- where it is not refused, the buffer has room for all settings
pub slip_fits : (m n : Counts) (x : Tables) (c room : ℕ) → slip_refusal m n x c room ≡ None → length (path_in m x c) + 1 ≤ room
slip_fits m n x c room due =
    let a = cond_none (same_counts m n) fault.OtherCounts _ due in
    let b = cond_none (nat_lt c circuit_count) fault.NoCircuit _ a.1 in
    let d = cond_none (is_standing (circuit_in x c)) fault.CircuitState _ b.1 in
    leb-true (length (path_in m x c) + 1) room (cond_none (nat_le (length (path_in m x c) + 1) room) fault.SlipBuffer _ d.1).0

-- so it tells the circuit's path
pub told_slip : (m : Counts) (w : Net) (x : Tables) (c room : ℕ) (r : Route) (buffer : List Setting) → slip_refusal m w.counts x c room ≡ None → route_of x.circuits c ≡ Some r
    → (length (along w.counts x.channels (Some r)) + 1 ≤ room → Tells w (along w.counts x.channels (Some r)) buffer) → Tells w (path_in m x c) buffer
told_slip m w x c room r buffer due e told =
    let same = slip_path m w.counts x c room r due e in
    subst (λ p. Tells w p buffer) same (told (subst (λ p. length p + 1 ≤ room) (sym same) (slip_fits m w.counts x c room due)))
