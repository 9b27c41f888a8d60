-- The spans that leave a node are those whose tail it is.
use Rattle.std.proofs.Common.{◌≡◌, ℕ, zero, suc, ◌+◌, ◌<◌, ◌≤◌, Bool, true, false, cond, eqb, List, [], ◌∷◌, filter, length, get_or, take, slice_range, sym, refl, ap, ◌∙◌, subst, ⊎_elim, arith}
use Rattle.std.specs.List.{range_with_len, Contains}
use Rattle.std.proofs.lemmas.Bool.{cases_eq, cond-true, eq-eqb, eqb-true, ne_eqb}
use Rattle.std.proofs.lemmas.Grind.{get_or_default_zero}
use Rattle.network.specs.declared.counts.Counts.{Counts}
use Rattle.network.specs.declared.span.Span.{Span}
use Rattle.network.specs.Limits.{Joined, span_at}
use Rattle.network.specs.Indexes.{leaving_by, start_at, Indexed}
use Rattle.network.specs.Net.{Net, leaving}
use Rattle.network.proofs.Rowed.{leaving_by-take}

-- a number stands at some place of a list
abbrev pub Listed : List ℕ → ℕ → Type 0
Listed es e = (i : ℕ) × (i < length es) × (get_or es i 0 ≡ e)

further : (b : Bool) (a e : ℕ) (es : List ℕ) → Listed es e → Listed (cond b (a ∷ es) es) e
further true a e es h = (suc h.0, omega (arith, h.1), h.2)
further false a e es h = h

pub kept : (p : ℕ → Bool) (a n e : ℕ) → a ≤ e → e < a + n → p e ≡ true → Listed (filter p (range_with_len a n)) e
kept p a zero e h l t = absurd (omega arith)
kept p a (suc n) e h l t =
    let es = filter p (range_with_len (a + 1) n) in
    ⊎_elim
    (λ (same : a ≡ e). subst (λ (xs : List ℕ). Listed xs e) (sym (cond-true (p a) (a ∷ es) es (ap p same ∙ t))) (0, omega arith, same))
    (λ (other : a ≡ e → ⊥). further (p a) a e es (kept p (a + 1) n e (omega arith) (omega arith) t))
    (cases_eq a e)

passing_on : (p : ℕ → Bool) (a : ℕ) (es : List ℕ) → ((i : ℕ) → i < length es → p (get_or es i 0) ≡ true) → (b : Bool) → p a ≡ b → (i : ℕ) → i < length (cond b (a ∷ es) es) → p (get_or (cond b (a ∷ es) es) i 0) ≡ true
passing_on p a es on true q zero h = q
passing_on p a es on true q (suc i) h = on i (omega (arith, h))
passing_on p a es on false q i h = on i h

passing : (p : ℕ → Bool) (a n i : ℕ) → i < length (filter p (range_with_len a n)) → p (get_or (filter p (range_with_len a n)) i 0) ≡ true
passing p a zero i h = absurd (omega (arith, h))
passing p a (suc n) i h = passing_on p a (filter p (range_with_len (a + 1) n)) (passing p (a + 1) n) (p a) refl i h

-- the same, as the library says it
pub Contains-from_Listed : (es : List ℕ) (e : ℕ) → Listed es e → Contains es e
Contains-from_Listed es e h = (h.0, h.1, get_or_default_zero es h.0 e h.1 ∙ h.2)

module _ (w : Net) (u : ℕ) where
  -- each of them has the node for its tail
  pub leaving_tail : (i : ℕ) → i < length (leaving w u) → (span_at w.ends (get_or (leaving w u) i 0)).tail ≡ u
  leaving_tail i h = eqb-true _ _ (passing (λ e. eqb (span_at w.ends e).tail u) 0 w.counts.spans i h)

  -- each span whose tail is the node is among them
  pub leaving_all : (e : ℕ) → e < w.counts.spans → (span_at w.ends e).tail ≡ u → Listed (leaving w u) e
  leaving_all e h t = kept (λ e. eqb (span_at w.ends e).tail u) 0 w.counts.spans e (omega arith) (omega arith) (eq-eqb _ _ t)

-- none leaves what is no span's tail
none : (p : ℕ → Bool) (a n : ℕ) → ((e : ℕ) → e < a + n → p e ≡ false) → filter p (range_with_len a n) ≡ []
none p a zero h = refl
none p a (suc n) h =
    let es = filter p (range_with_len (a + 1) n) in
    ap (λ b. cond b (a ∷ es) es) (h a (omega arith)) ∙ none p (a + 1) n (λ e l. h e (omega arith))

pub leaving_by_none : (n : ℕ) (ends : List Span) (u : ℕ) → ((e : ℕ) → e < n → (span_at ends e).tail ≡ u → ⊥) → leaving_by n ends u ≡ []
leaving_by_none n ends u h = none (λ e. eqb (span_at ends e).tail u) 0 n (λ e l. ne_eqb _ _ (h e (omega arith)))

-- a node's row in an index
pub row_is : (n : Counts) (ends : List Span) (order starts : List ℕ) (u start end : ℕ) → Indexed n ends order starts → u < n.nodes → start ≡ start_at starts u → end ≡ start_at starts (u + 1)
    → slice_range order start end ≡ leaving_by n.spans (take n.spans ends) u
row_is n ends order starts u start end indexed h from to =
    (λ k. slice_range order (from k) (to k)) ∙ (indexed u h).2 ∙ sym (leaving_by-take n.spans ends u)

-- no span leaves what is no node
pub no_row : (n : Counts) (ends : List Span) (u : ℕ) → Joined n ends → n.nodes ≤ u → [] ≡ leaving_by n.spans (take n.spans ends) u
no_row n ends u joined h = sym (leaving_by-take n.spans ends u ∙ leaving_by_none n.spans ends u (λ e l t. omega (arith, (joined e l).0)))
