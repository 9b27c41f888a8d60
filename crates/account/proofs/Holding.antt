-- Which channels are held, by the records and by the account.
use Rattle.std.proofs.Common.{◌≡◌, ◌≢◌, ℕ, zero, suc, ◌<◌, Bool, true, false, ◌||◌, ◌==◌, Some, None, Option, is_some, ltb, refl, sym, ap, ◌∙◌, arith, ◌⊎◌, inl, inr}
use Rattle.std.proofs.lemmas.Bool.{cases_Bool, cond-false, eq-eqb, ltb-true, false≢true}
use Rattle.std.proofs.lemmas.Bool.Decides.{eqb_tells}
use Rattle.network.specs.declared.counts.Counts.{Counts}
use Rattle.network.specs.declared.step.Step.{Step}
use Rattle.network.specs.Steps.{Within, on}
use Rattle.records.specs.Chains.{Channel, circuit_count, channel_at, holder, along, standing, circuit_at}
use Rattle.records.specs.Sound.{names, HoldersNamed}
use Rattle.book.specs.State.{Tables}
use Rattle.book.specs.Changes.{path_in}
use Rattle.account.specs.Accounts.{Entry, Account, path_in_entry, path_by, held_below, is_held}

or_true : (b : Bool) → b || true ≡ true
or_true true = refl
or_true false = refl

pub held_there : (f : ℕ → Option Entry) (n c : ℕ) (s : Step) → c < n → on s (path_in_entry (f c)) ≡ true → held_below f n s ≡ true
unfolding held_below
held_there f zero c s h o = absurd (omega arith)
held_there f (suc n) c s h o = go (λ l. held_there f n c s l o) (eqb_tells c n)
  where
    go : (c < n → held_below f n s ≡ true) → ((c == n ≡ true) × (c ≡ n)) ⊎ ((c == n ≡ false) × (c ≢ n)) → on s (path_in_entry (f n)) || held_below f n s ≡ true
    go rest (inl q) = ap (λ b. b || held_below f n s) (ap (λ d. on s (path_in_entry (f d))) (sym q.1) ∙ o)
    go rest (inr q) = ap (λ b. on s (path_in_entry (f n)) || b) (rest (omega (arith, q.1))) ∙ or_true (on s (path_in_entry (f n)))

pub held_nowhere : (f : ℕ → Option Entry) (n : ℕ) (s : Step) → ((c : ℕ) → on s (path_in_entry (f c)) ≡ false) → held_below f n s ≡ false
unfolding held_below
held_nowhere f zero s none = refl
held_nowhere f (suc n) s none = ap (λ b. b || held_below f n s) (none n) ∙ held_nowhere f n s none

-- what lies on a circuit's path lies on the path of one of the 128
on_known : (n : Counts) (x : Tables) (c : ℕ) (s : Step) → on s (path_in n x c) ≡ true → c < circuit_count
on_known n x c s o = go (cases_Bool (ltb c circuit_count))
  where
    go : (ltb c circuit_count ≡ true) ⊎ (ltb c circuit_count ≡ false) → c < circuit_count
    go (inl q) = ltb-true c circuit_count q
    go (inr q) = absurd (false≢true (sym (ap (λ r. on s (along n x.channels r)) (cond-false (ltb c circuit_count) (standing (circuit_at x.circuits c)) None q)) ∙ o))

-- a record names a circuit just where the channel is held by an account of the same paths
pub same_held : (n : Counts) (x : Tables) (a : Account) → HoldersNamed n x.channels x.circuits → ((c : ℕ) → path_in n x c ≡ path_by a c) → (s : Step) → Within n s → is_some (channel_at n x.channels s) ≡ is_held a s
same_held n x a named paths s here = go (channel_at n x.channels s) refl
  where
    go : (r : Channel) → channel_at n x.channels s ≡ r → is_some r ≡ is_held a s
    go None e = sym (held_nowhere a.entry circuit_count s (λ c. ap (on s) (sym (paths c)) ∙ sym (named c s here) ∙ ap (λ r. names c (holder r)) e))
    go (Some h) e =
        let lies : on s (path_in n x h.circuit) ≡ true = sym (named h.circuit s here) ∙ ap (λ r. names h.circuit (holder r)) e ∙ eq-eqb h.circuit h.circuit refl in
        sym (held_there a.entry circuit_count h.circuit s (on_known n x h.circuit s lies) (ap (on s) (sym (paths h.circuit)) ∙ lies))
