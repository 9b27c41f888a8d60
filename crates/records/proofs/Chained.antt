-- The steps of a chain, each by its place.
use Rattle.std.proofs.Common.{◌≡◌, ℕ, zero, suc, ◌+◌, ◌<◌, ◌≤◌, List, slice_get, Some, None, Option, refl, arith}
use Rattle.std.specs.Option.{option_and_then}
use Rattle.network.specs.declared.counts.Counts.{Counts}
use Rattle.network.specs.declared.step.Step.{Step}
use Rattle.records.specs.Chains.{Channel, next, channel_at, chain, after}

-- what a chain has at a place is next after that many steps
pub chain_at : (n : Counts) (channels : List Channel) (m i : ℕ) (s : Option Step) → i < m → slice_get (chain n channels m s) i ≡ after n channels i s
unfolding chain after
chain_at n channels zero i s low = absurd (omega arith)
chain_at n channels (suc m) zero None low = refl
chain_at n channels (suc m) (suc i) None low = refl
chain_at n channels (suc m) zero (Some s) low = refl
chain_at n channels (suc m) (suc i) (Some s) low = chain_at n channels m i (next (channel_at n channels s)) (omega arith)

-- and beyond its steps it has none
pub chain_ended : (n : Counts) (channels : List Channel) (m i : ℕ) (s : Option Step) → m ≤ i → slice_get (chain n channels m s) i ≡ None
unfolding chain
chain_ended n channels zero i s past = refl
chain_ended n channels (suc m) zero s past = absurd (omega arith)
chain_ended n channels (suc m) (suc i) None past = refl
chain_ended n channels (suc m) (suc i) (Some s) past = chain_ended n channels m i (next (channel_at n channels s)) (omega arith)

-- the step that is next after one step more is what the record of the one before it says
pub after_more : (n : Counts) (channels : List Channel) (i : ℕ) (s : Option Step) → after n channels (suc i) s ≡ option_and_then (λ t. next (channel_at n channels t)) (after n channels i s)
unfolding after
after_more n channels zero None = refl
after_more n channels zero (Some s) = refl
after_more n channels (suc i) None = refl
after_more n channels (suc i) (Some s) = after_more n channels i (next (channel_at n channels s))

-- a chain's first step is where it begins
pub chain_first : (n : Counts) (channels : List Channel) (m : ℕ) (s : Step) → 0 < m → slice_get (chain n channels m (Some s)) 0 ≡ Some s
unfolding chain
chain_first n channels zero s some = absurd (omega arith)
chain_first n channels (suc m) s some = refl

-- and each further one follows the one before it by that one's record
pub chain_next : (n : Counts) (channels : List Channel) (m i : ℕ) (s : Option Step) → i + 1 < m
    → slice_get (chain n channels m s) (i + 1) ≡ option_and_then (λ t. next (channel_at n channels t)) (slice_get (chain n channels m s) i)
chain_next n channels m i s low =
    let place : i + 1 ≡ suc i = omega arith in
    rw (place, chain_at n channels m (suc i) s (omega arith), chain_at n channels m i s (omega arith)) (after_more n channels i s)
