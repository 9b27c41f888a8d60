-- A path is taken, and is spelt by the records then; it is given back, and its channels are free.
use Rattle.std.proofs.Common.{◌≡◌, ℕ, zero, suc, ◌≤◌, Bool, true, false, not, ◌||◌, List, [], ◌∷◌, length, Some, None, Option, refl, sym, ap, ◌∙◌, subst, ◌⊎◌, inl, inr}
use Rattle.std.proofs.lemmas.Bool.{and_parts, cases_Bool, not-true, false≢true}
use Rattle.std.proofs.lemmas.List.{length-set}
use Rattle.network.specs.declared.counts.Counts.{Counts}
use Rattle.network.specs.declared.step.Step.{Step}
use Rattle.network.specs.Tariffs.{span_entries, span_entry}
use Rattle.network.specs.Steps.{Within, same, on, distinct}
use Rattle.records.specs.Chains.{Channel, channel_at, chain, after, next}
use Rattle.records.specs.Sound.{AllWithin}
use Rattle.records.specs.Changes.{first_step, written, taken, given_back}
use Rattle.records.proofs.Channels.{same_step, same_self, written_there, written_off}

-- the tables agree on the channels that do not lie on a path
abbrev pub AgreeOff : Counts → List Step → List Channel → List Channel → Type 0
AgreeOff n p channels channels' = (u : Step) → Within n u → on u p ≡ false → channel_at n channels' u ≡ channel_at n channels u

or_true_left : (a b : Bool) → a ≡ true → (a || b) ≡ true
or_true_left a b e = ap (λ x. x || b) e

or_true_right : (a b : Bool) → b ≡ true → (a || b) ≡ true
or_true_right true b e = refl
or_true_right false b e = e

pub or_false : (a b : Bool) → (a || b) ≡ false → (a ≡ false) × (b ≡ false)
or_false true b e = absurd (false≢true (sym e))
or_false false b e = (refl, e)

pub on_first : (s : Step) (p : List Step) → on s (s ∷ p) ≡ true
on_first s p = or_true_left (same s s) (on s p) (same_self s)

pub on_rest : (u s : Step) (p : List Step) → on u p ≡ true → on u (s ∷ p) ≡ true
on_rest u s p e = or_true_right (same u s) (on u p) e

pub within_rest : (n : Counts) (s : Step) (p : List Step) → AllWithin n (s ∷ p) → AllWithin n p
within_rest n s p w u o = w u (on_rest u s p o)

pub length-written : (n : Counts) (channels : List Channel) (s : Step) (r : Channel) → length (written n channels s r) ≡ length channels
length-written n channels s r = length-set channels (span_entry n s.span s.channel) r

pub length-taken : (n : Counts) (c : ℕ) (p : List Step) (channels : List Channel) → length (taken n c p channels) ≡ length channels
length-taken n c [] channels = refl
length-taken n c (s ∷ p) channels = length-written n (taken n c p channels) s _ ∙ length-taken n c p channels

pub length-given_back : (n : Counts) (p : List Step) (channels : List Channel) → length (given_back n p channels) ≡ length channels
length-given_back n [] channels = refl
length-given_back n (s ∷ p) channels = length-given_back n p (written n channels s None) ∙ length-written n channels s None

-- where a chain's steps lie off what differs, it is the same
pub same_chain : (n : Counts) (p : List Step) (channels channels' : List Channel) → AgreeOff n p channels channels' → (m : ℕ) (s : Option Step)
    → ((u : Step) → on u (chain n channels m s) ≡ true → Within n u × (on u p ≡ false))
    → (chain n channels' m s ≡ chain n channels m s) × (after n channels' m s ≡ after n channels m s)
unfolding chain after
same_chain n p channels channels' agree zero s off = (refl, refl)
same_chain n p channels channels' agree (suc m) None off = (refl, refl)
same_chain n p channels channels' agree (suc m) (Some s) off =
    let here = off s (on_first s _) in
    let e : next (channel_at n channels' s) ≡ next (channel_at n channels s) = ap next (agree s here.0 here.1) in
    let rest = same_chain n p channels channels' agree m (next (channel_at n channels s)) (λ u o. off u (on_rest u s _ o)) in (
      ap (λ q. s ∷ q) (ap (chain n channels' m) e ∙ rest.0),
      ap (after n channels' m) e ∙ rest.1,
    )

-- a path that is taken changes no record off it
pub taken_off : (n : Counts) (c : ℕ) (p : List Step) (channels : List Channel) → AllWithin n p → AgreeOff n p channels (taken n c p channels)
taken_off n c [] channels w u h o = refl
taken_off n c (s ∷ p) channels w u h o =
    let out = or_false (same u s) (on u p) o in
    written_off n (taken n c p channels) s u _ (w s (on_first s p)) h out.0 ∙ taken_off n c p channels (within_rest n s p w) u h out.1

-- a record on it names the circuit
pub taken_on : (n : Counts) (c : ℕ) (p : List Step) (channels : List Channel) → AllWithin n p → span_entries n ≤ length channels → (u : Step) → on u p ≡ true
    → (s : Option Step) × (channel_at n (taken n c p channels) u ≡ Some (record { circuit = c; next = s }))
taken_on n c [] channels w wide u o = absurd (false≢true o)
taken_on n c (s ∷ p) channels w wide u o = go (taken_on n c p channels (within_rest n s p w) wide u) (cases_Bool (same u s))
  where
    go : (on u p ≡ true → (t : Option Step) × (channel_at n (taken n c p channels) u ≡ Some (record { circuit = c; next = t }))) → (same u s ≡ true) ⊎ (same u s ≡ false) → (t : Option Step) × (channel_at n (taken n c (s ∷ p) channels) u ≡ Some (record { circuit = c; next = t }))
    go rest (inl e) =
        (first_step p, ap (channel_at n (taken n c (s ∷ p) channels)) (same_step u s e) ∙ written_there n (taken n c p channels) s _ (w s (on_first s p)) (subst (λ l. span_entries n ≤ l) (sym (length-taken n c p channels)) wide))
    go rest (inr e) =
        let r = rest (sym (ap (λ b. b || on u p) e) ∙ o) in
        (r.0, written_off n (taken n c p channels) s u _ (w s (on_first s p)) (w u o) e ∙ r.1)

-- the records spell the path, and nothing follows its last step
pub spelt : (n : Counts) (c : ℕ) (p : List Step) (channels : List Channel) → AllWithin n p → distinct p ≡ true → span_entries n ≤ length channels
    → (chain n (taken n c p channels) (length p) (first_step p) ≡ p) × (after n (taken n c p channels) (length p) (first_step p) ≡ None)
unfolding chain after
spelt n c [] channels w d wide = (refl, refl)
spelt n c (s ∷ p) channels w d wide =
    let parts = and_parts (not (on s p)) (distinct p) d in
    let off = not-true (on s p) parts.0 in
    let rest = spelt n c p channels (within_rest n s p w) parts.1 wide in
    let there : channel_at n (taken n c (s ∷ p) channels) s ≡ Some (record { circuit = c; next = first_step p }) = written_there n (taken n c p channels) s _ (w s (on_first s p)) (subst (λ l. span_entries n ≤ l) (sym (length-taken n c p channels)) wide) in
    let e : next (channel_at n (taken n c (s ∷ p) channels) s) ≡ first_step p = ap next there in
    let agree : AgreeOff n (s ∷ []) (taken n c p channels) (taken n c (s ∷ p) channels) = λ u h o. written_off n (taken n c p channels) s u _ (w s (on_first s p)) h (or_false (same u s) false o).0 in
    let kept = same_chain n (s ∷ []) (taken n c p channels) (taken n c (s ∷ p) channels) agree (length p) (first_step p) (λ u o. apart u (sym (ap (on u) rest.0) ∙ o)) in (
      ap (λ q. s ∷ q) (ap (chain n (taken n c (s ∷ p) channels) (length p)) e ∙ kept.0 ∙ rest.0),
      ap (after n (taken n c (s ∷ p) channels) (length p)) e ∙ kept.1 ∙ rest.1,
    )
  where
    apart : (u : Step) → on u p ≡ true → Within n u × (on u (s ∷ []) ≡ false)
    apart u o = (within_rest n s p w u o, go (cases_Bool (same u s)))
      where
        go : (same u s ≡ true) ⊎ (same u s ≡ false) → on u (s ∷ []) ≡ false
        go (inl e) = absurd (false≢true (sym (not-true (on s p) (and_parts (not (on s p)) (distinct p) d).0) ∙ ap (λ x. on x p) (sym (same_step u s e)) ∙ o))
        go (inr e) = ap (λ b. b || false) e

-- a path that is given back changes no record off it
pub given_back_off : (n : Counts) (p : List Step) (channels : List Channel) → AllWithin n p → AgreeOff n p channels (given_back n p channels)
given_back_off n [] channels w u h o = refl
given_back_off n (s ∷ p) channels w u h o =
    let out = or_false (same u s) (on u p) o in
    given_back_off n p (written n channels s None) (within_rest n s p w) u h out.1 ∙ written_off n channels s u None (w s (on_first s p)) h out.0

-- a record that is free stays so
stays_free : (n : Counts) (p : List Step) (channels : List Channel) → AllWithin n p → span_entries n ≤ length channels → (u : Step) → Within n u → channel_at n channels u ≡ None → channel_at n (given_back n p channels) u ≡ None
stays_free n [] channels w wide u h e = e
stays_free n (s ∷ p) channels w wide u h e =
    stays_free n p (written n channels s None) (within_rest n s p w) (subst (λ l. span_entries n ≤ l) (sym (length-written n channels s None)) wide) u h (go (cases_Bool (same u s)))
  where
    go : (same u s ≡ true) ⊎ (same u s ≡ false) → channel_at n (written n channels s None) u ≡ None
    go (inl q) = ap (channel_at n (written n channels s None)) (same_step u s q) ∙ written_there n channels s None (w s (on_first s p)) wide
    go (inr q) = written_off n channels s u None (w s (on_first s p)) h q ∙ e

-- a record on it is free
pub given_back_on : (n : Counts) (p : List Step) (channels : List Channel) → AllWithin n p → span_entries n ≤ length channels → (u : Step) → on u p ≡ true → channel_at n (given_back n p channels) u ≡ None
given_back_on n [] channels w wide u o = absurd (false≢true o)
given_back_on n (s ∷ p) channels w wide u o =
    let wide' : span_entries n ≤ length (written n channels s None) = subst (λ l. span_entries n ≤ l) (sym (length-written n channels s None)) wide in
    go wide' (given_back_on n p (written n channels s None) (within_rest n s p w) wide' u) (cases_Bool (same u s))
  where
    go : span_entries n ≤ length (written n channels s None) → (on u p ≡ true → channel_at n (given_back n p (written n channels s None)) u ≡ None) → (same u s ≡ true) ⊎ (same u s ≡ false) → channel_at n (given_back n p (written n channels s None)) u ≡ None
    go wide' rest (inl q) =
        stays_free n p (written n channels s None) (within_rest n s p w) wide' u (w u o) (ap (channel_at n (written n channels s None)) (same_step u s q) ∙ written_there n channels s None (w s (on_first s p)) wide)
    go wide' rest (inr q) = rest (sym (ap (λ b. b || on u p) q) ∙ o)
