-- An offer in hand can still be spent after a circuit was darkened.
use Rattle.std.proofs.Common.{◌≡◌, ℕ, true, List, Some, None, Option, Result, refl, sym, ap, ◌∙◌, slice_set, inl, inr, ◌⊎◌, false, eqb, ◌≢◌}
use Rattle.std.proofs.lemmas.Bool.{cond-true}
use Rattle.std.proofs.lemmas.Bool.Decides.{eqb_tells}
use Rattle.std.proofs.lemmas.List.{get_or-set_other}
use Rattle.fault.specs.declared.book.BookFault.{BookFault}
use Rattle.fault.proofs.Judged.{cond_none}
use Rattle.network.specs.declared.counts.Counts.{Counts}
use Rattle.records.specs.declared.circuit.Circuit.{Circuit}
use Rattle.records.specs.declared.circuit.Circuit.TheVariants as circuit
use Rattle.records.specs.Chains.{circuit_at}
use Rattle.book.specs.declared.offer.Offer.{Offer}
use Rattle.book.specs.Answering.{unrefused}
use Rattle.book.specs.Calls.{Darkens}
use Rattle.book.specs.Changes.{frees, changed_by, circuit_in}
use Rattle.book.specs.Refusing.{is_offered, is_lit, darken_refusal}
use Rattle.book.specs.State.{Tables}
use Rattle.cabinet.specs.Serving.{Good}

not_both : (z : Circuit) → is_lit z ≡ true → is_offered z ≡ true → ⊥
not_both circuit.Free a b = cc
not_both (circuit.Offered r) a b = cc
not_both (circuit.Lit r) a b = cc

still_offered : (circuits : List Circuit) (c k : ℕ) → is_lit (circuit_at circuits c) ≡ true → is_offered (circuit_at circuits k) ≡ true → is_offered (circuit_at (slice_set circuits c circuit.Free) k) ≡ true
still_offered circuits c k lit offered = go (eqb_tells k c)
  where
    go : ((eqb k c ≡ true) × (k ≡ c)) ⊎ ((eqb k c ≡ false) × (k ≢ c)) → is_offered (circuit_at (slice_set circuits c circuit.Free) k) ≡ true
    go (inl q) = absurd (not_both (circuit_at circuits c) lit (sym (ap (λ i. is_offered (circuit_at circuits i)) q.1) ∙ offered))
    go (inr q) = ap is_offered (get_or-set_other circuits c k circuit.Free circuit.Free q.1) ∙ offered

darkened : (n : Counts) (x y : Tables) (c k : ℕ) (due : Option BookFault) → darken_refusal x c ≡ due → y ≡ changed_by n (unrefused due (frees c)) x → is_offered (circuit_in x k) ≡ true → is_offered (circuit_in y k) ≡ true
darkened n x y c k (Some f) e is h = ap (λ t. is_offered (circuit_in t k)) is ∙ h
darkened n x y c k None e is h =
    let lit = cond_none _ _ _ (cond_none _ _ _ e).1 in
    ap (λ t. is_offered (circuit_in t k)) is ∙ still_offered x.circuits c k lit.0 h

pub still_good : (n : Counts) (m m' : ℕ) (x y : Tables) (c : ℕ) (a : Result ℕ BookFault) (hand : Option Offer) → m' ≡ m → Darkens n x c a y → Good m x hand → Good m' y hand
still_good n m m' x y c a None same d g = tt
still_good n m m' x y c a (Some f) same d g =
    let mark = cond_none (eqb f.mark m) _ _ g in
    let offered = cond_none (is_offered (circuit_in x f.circuit)) _ _ mark.1 in
    cond-true (eqb f.mark m') _ _ (ap (eqb f.mark) same ∙ mark.0)
    ∙ cond-true (is_offered (circuit_in y f.circuit)) _ _ (darkened n x y c f.circuit (darken_refusal x c) refl d.change.tables offered.0)
