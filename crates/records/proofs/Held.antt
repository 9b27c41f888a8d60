-- A path that is taken adds its length to the count of held channels, and one that is given back takes it off.
use Rattle.std.proofs.Common.{◌≡◌, ℕ, ◌+◌, ◌≤◌, min, true, false, cond, not, List, [], ◌∷◌, length, take, drop, set, replicate, count_by, is_some, Some, None, sym, ap, ◌∙◌, inl, inr, arith}
use Rattle.std.proofs.lemmas.Bool.{and_parts, cases_Bool, not-true, false≢true}
use Rattle.std.proofs.lemmas.List.{get_or-take, length-take-le, length-replicate, take_at, take_min}
use Rattle.std.proofs.lemmas.List.Sums.{sum_by-set}
use Rattle.std.proofs.lemmas.List.Folds.{sum_by-replicate}
use Rattle.std.proofs.Math.Seq.{take-set-lt}
use Rattle.network.specs.declared.counts.Counts.{Counts}
use Rattle.network.specs.declared.step.Step.{Step}
use Rattle.network.specs.Steps.{Within, same, on, distinct}
use Rattle.network.specs.Tables.{filled}
use Rattle.network.specs.Tariffs.{span_entries, span_entry}
use Rattle.network.proofs.Entries.{span_entry_lem}
use Rattle.network.proofs.Filled.{length-filled}
use Rattle.records.specs.Chains.{Channel, channel_at}
use Rattle.records.specs.Changes.{first_step, written, taken, given_back}
use Rattle.records.specs.Sound.{AllWithin}
use Rattle.records.specs.Held.{held}
use Rattle.records.proofs.Channels.{same_step, written_off}
use Rattle.records.proofs.Taken.{on_first, on_rest, within_rest, length-written, length-taken, taken_off}

-- what a record adds to the count
abbrev counted : Channel → ℕ
counted r = cond (is_some r) 1 0

-- one record is written: what stood there is no longer counted, and the new one is
held_written : (n : Counts) (channels : List Channel) (s : Step) (r : Channel) → Within n s → span_entries n ≤ length channels
    → held n (written n channels s r) + counted (channel_at n channels s) ≡ held n channels + counted r
held_written n channels s r h wide =
    let i = span_entry n s.span s.channel in
    let lt = span_entry_lem n s.span s.channel h.0 h.1 in
    let front = take (span_entries n) channels in
    let long = length-take-le (span_entries n) channels wide in
    ap (λ l. count_by is_some l + counted (channel_at n channels s)) (take-set-lt (span_entries n) channels i r lt)
    ∙ ap (λ o. count_by is_some (set front i r) + counted o) (sym (get_or-take (span_entries n) channels i None lt))
    ∙ sum_by-set counted front i r None (omega arith)

-- a step on a path is not one that lies off it
apart : (s u : Step) (p : List Step) → on s p ≡ false → on u p ≡ true → same u s ≡ false
apart s u p off o =
    elim (cases_Bool (same u s)) [
      | inl e ↦ absurd (false≢true (sym off ∙ ap (λ x. on x p) (sym (same_step u s e)) ∙ o))
      | inr e ↦ e
    ]

-- a path whose channels are free is taken: each of its steps is one more channel that is held
pub held_taken : (n : Counts) (c : ℕ) (p : List Step) (channels : List Channel) → span_entries n ≤ length channels → AllWithin n p → distinct p ≡ true
    → ((s : Step) → on s p ≡ true → channel_at n channels s ≡ None) → held n (taken n c p channels) ≡ length p + held n channels
held_taken n c [] channels wide within once free = omega arith
held_taken n c (s ∷ p) channels wide within once free =
    let parts = and_parts (not (on s p)) (distinct p) once in
    let here = within s (on_first s p) in
    let rest = within_rest n s p within in
    let unheld = taken_off n c p channels rest s here (not-true (on s p) parts.0) ∙ free s (on_first s p) in
    let more = held_written n (taken n c p channels) s (Some (record { circuit = c; next = first_step p })) here (omega (arith, length-taken n c p channels)) in
    let before = ap counted unheld in
    let others = held_taken n c p channels wide rest parts.1 (λ u o. free u (on_rest u s p o)) in
    omega (arith, more, before, others)

-- a path whose channels are held is given back: each of its steps is one channel less
pub held_given : (n : Counts) (p : List Step) (channels : List Channel) → span_entries n ≤ length channels → AllWithin n p → distinct p ≡ true
    → ((s : Step) → on s p ≡ true → is_some (channel_at n channels s) ≡ true) → length p + held n (given_back n p channels) ≡ held n channels
held_given n [] channels wide within once full = omega arith
held_given n (s ∷ p) channels wide within once full =
    let parts = and_parts (not (on s p)) (distinct p) once in
    let here = within s (on_first s p) in
    let rest = within_rest n s p within in
    let less = held_written n channels s None here wide in
    let before : counted (channel_at n channels s) ≡ 1 = ap (λ b. cond b 1 0) (full s (on_first s p)) in
    let kept = λ (u : Step) (o : on u p ≡ true). ap is_some (written_off n channels s u None here (rest u o) (apart s u p (not-true (on s p) parts.0) o)) ∙ full u (on_rest u s p o) in
    let others = held_given n p (written n channels s None) (omega (arith, length-written n channels s None)) rest parts.1 kept in
    omega (arith, less, before, others)

-- the first n entries of a table in which they are written
take-filled : {A : Type 0} (n : ℕ) (v : A) (old : List A) → take n (filled n v old) ≡ replicate (min n (length old)) v
take-filled n v old =
    let m = min n (length old) in
    sym (take_min n (filled n v old)) ∙ ap (λ k. take (min n k) (filled n v old)) (length-filled n v old) ∙ take_at (replicate m v) (drop m old) m (length-replicate m v)

-- where all channels are free, none is held
pub held_filled : (n : Counts) (channels : List Channel) → held n (filled (span_entries n) None channels) ≡ 0
held_filled n channels =
    ap (count_by is_some) (take-filled (span_entries n) None channels) ∙ sum_by-replicate counted (min (span_entries n) (length channels)) None ∙ omega arith
