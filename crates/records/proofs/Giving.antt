-- A path is given back channel by channel, along its chain.
use Rattle.std.proofs.Common.{◌≡◌, ℕ, zero, suc, ◌+◌, ◌-◌, ◌<◌, true, false, not, ◌||◌, List, [], ◌∷◌, Some, None, Option, sym, ap, ◌∙◌, subst, arith, ◌⊎◌, inl, inr}
use Rattle.std.proofs.lemmas.Bool.{and_parts, cases_Bool, not-true, false≢true}
use Rattle.network.specs.declared.counts.Counts.{Counts}
use Rattle.network.specs.declared.step.Step.{Step}
use Rattle.network.specs.Steps.{Within, same, on, distinct}
use Rattle.records.specs.Chains.{Channel, channel_at, chain, next}
use Rattle.records.specs.Changes.{written, given_back}
use Rattle.records.specs.Sound.{AllWithin}
use Rattle.records.proofs.Channels.{same_step, written_off}
use Rattle.records.proofs.Taken.{AgreeOff, on_first, within_rest, or_false, same_chain}

-- what is left of a chain, m steps of it from one on, gives the table R
abbrev pub Leaves : Counts → List Channel → List Channel → ℕ → Option Step → Type 0
Leaves n R channels m at = (given_back n (chain n channels m at) channels ≡ R) × AllWithin n (chain n channels m at) × (distinct (chain n channels m at) ≡ true)

one_less : (n : Counts) (R channels : List Channel) (m : ℕ) (s : Step) → Leaves n R channels (suc m) (Some s) → Leaves n R (written n channels s None) m (next (channel_at n channels s))
unfolding chain
one_less n R channels m s left = (ap (λ q. given_back n q (written n channels s None)) kept ∙ left.0, subst (AllWithin n) (sym kept) rest, ap distinct kept ∙ parts.1)
  where
    p : List Step
    p = chain n channels m (next (channel_at n channels s))

    here : Within n s
    here = left.1 s (on_first s p)

    rest : AllWithin n p
    rest = within_rest n s p left.1

    parts : (not (on s p) ≡ true) × (distinct p ≡ true)
    parts = and_parts (not (on s p)) (distinct p) left.2

    agree : AgreeOff n (s ∷ []) channels (written n channels s None)
    agree = λ u h o. written_off n channels s u None here h (or_false (same u s) false o).0

    apart : (u : Step) → on u p ≡ true → on u (s ∷ []) ≡ false
    apart u o = go (cases_Bool (same u s))
      where
        go : (same u s ≡ true) ⊎ (same u s ≡ false) → on u (s ∷ []) ≡ false
        go (inl e) = absurd (false≢true (sym (not-true (on s p) parts.0) ∙ ap (λ x. on x p) (sym (same_step u s e)) ∙ o))
        go (inr e) = ap (λ b. b || false) e

    kept : chain n (written n channels s None) m (next (channel_at n channels s)) ≡ p
    kept = (same_chain n (s ∷ []) channels (written n channels s None) agree m (next (channel_at n channels s)) (λ u o. (rest u o, apart u o))).0

-- one channel more is given back
pub gives_one : (n : Counts) (R channels channels' : List Channel) (steps i : ℕ) (at at' : Option Step) (s : Step) → i < steps → at ≡ Some s → channels' ≡ written n channels s None → at' ≡ next (channel_at n channels s) → Leaves n R channels (steps - i) at → Leaves n R channels' (steps - (i + 1)) at'
gives_one n R channels channels' steps i at at' s h e w f left =
    let more : steps - i ≡ suc (steps - (i + 1)) = omega arith in
    let one = one_less n R channels (steps - (i + 1)) s (subst (λ m. Leaves n R channels m (Some s)) more (subst (Leaves n R channels (steps - i)) e left)) in
    subst (λ a. Leaves n R channels' (steps - (i + 1)) a) (sym f) (subst (λ t. Leaves n R t (steps - (i + 1)) (next (channel_at n channels s))) (sym w) one)

pub gave_all : (n : Counts) (R channels : List Channel) (m : ℕ) (at : Option Step) → m ≡ 0 → Leaves n R channels m at → channels ≡ R
unfolding chain
gave_all n R channels m at e left = (subst (λ k. Leaves n R channels k at) e left).0

none_left : (n : Counts) (R channels : List Channel) (m : ℕ) → Leaves n R channels m None → channels ≡ R
unfolding chain
none_left n R channels zero left = left.0
none_left n R channels (suc m) left = left.0

-- where the chain ends, nothing is left
pub gave_none : (n : Counts) (R channels : List Channel) (m : ℕ) (at : Option Step) → at ≡ None → Leaves n R channels m at → channels ≡ R
gave_none n R channels m at e left = none_left n R channels m (subst (Leaves n R channels m) e left)
