-- What comes of an input at a book that has just been opened.
use Rattle.std.proofs.Common.{◌≡◌, ℕ, List, Ok, Option, Result, OnOk, ap, subst₂, ◌∙◌}
use Rattle.std.proofs.lemmas.Result.{on_ok_weaker}
use Rattle.network.specs.declared.counts.Counts.{Counts}
use Rattle.network.specs.Net.{Net}
use Rattle.plan.specs.declared.header.Header.{Header}
use Rattle.plan.specs.declared.reader.Plan.{Plan}
use Rattle.plan.specs.Header.{header}
use Rattle.plan.specs.Kept.{Told}
use Rattle.plan.specs.Plan.{Read, read, read_by}
use Rattle.book.specs.Opening.{room, opened}
use Rattle.book.specs.State.{Tables}
use Rattle.station.specs.Serving.{Serves, Works}

abbrev made : Header → List ℕ → List ℕ → List ℕ → List ℕ → Read
made h a b c d = record { header = h; numbers = a; spans = b; tariffs = c; converters = d }

made_same : (h h' : Header) (a a' b b' c c' d d' : List ℕ) → h ≡ h' → a ≡ a' → b ≡ b' → c ≡ c' → d ≡ d' → made h a b c d ≡ made h' a' b' c' d'
made_same h h' a a' b b' c c' d d' eh ea eb ec ed =
    ap (λ x. made x a b c d) eh
    ∙ ap (λ x. made h' x b c d) ea
    ∙ ap (λ x. made h' a' x c d) eb
    ∙ ap (λ x. made h' a' b' x d) ec
    ∙ ap (λ x. made h' a' b' c' x) ed

-- what is read of a plan is what its bytes have
read_is : (bs : List ℕ) (p : Plan) → Told bs (header bs) p → read_by p ≡ read bs
read_is bs p t = made_same _ _ _ _ _ _ _ _ _ _ t.header t.numbers.holds t.spans.holds t.tariffs.holds t.converters.holds

module _ {E : Type 0} (result : Result (Unit {0}) E) (before left held after : Option (List ℕ)) where
  pub worked : (w : Net) (k : Counts) (z x y : Tables) → k ≡ w.counts → x ≡ opened w.counts z → room w.counts z ≡ Ok tt → OnOk result (Serves w k x before left held after y) → OnOk result (Works w before left held after)
  worked w k z x y same is fits =
      on_ok_weaker result
      (λ s. record {
        lent = z;
        then = y;
        fits = fits;
        serves = subst₂ (λ (k : Counts) (x : Tables). Serves w k x before left held after y) same is s;
      })
