-- Runs that go on.
use Rattle.std.proofs.Common.{List, [], ◌∷◌, ◌++◌, sym, refl, ap, subst, ◌∙◌}
use Rattle.std.proofs.lemmas.List.{append-nil, append_assoc}
use Rattle.desk.specs.Runs.{Runs}

module _ {S A B : Type 0} (R : S → A → List B → S → Type 0) where
  -- a run of one
  pub runs_one : (s : S) (a : A) (out : List B) (s' : S) → R s a out s' → Runs R s (a ∷ []) out s'
  runs_one s a out s' h = record {
    between = s';
    first = out;
    rest = [];
    begins = h;
    goes_on = record { written = refl; left = refl };
    written = sym (append-nil out);
  }

  -- two runs, one after the other
  pub runs_append : (s : S) (xs ys : List A) (out more : List B) (m s' : S) → Runs R s xs out m → Runs R m ys more s' → Runs R s (xs ++ ys) (out ++ more) s'
  runs_append s [] ys out more m s' h k =
      subst (λ (u : S). Runs R u ys (out ++ more) s') h.left (subst (λ (o : List B). Runs R m ys (o ++ more) s') (sym h.written) k)
  runs_append s (x ∷ xs) ys out more m s' h k = record {
    between = h.between;
    first = h.first;
    rest = h.rest ++ more;
    begins = h.begins;
    goes_on = runs_append h.between xs ys h.rest more m s' h.goes_on k;
    written = ap (λ (o : List B). o ++ more) h.written ∙ append_assoc h.first h.rest more;
  }

  -- one more at the end
  pub runs_last : (s : S) (xs : List A) (a : A) (out more : List B) (m s' : S) → Runs R s xs out m → R m a more s' → Runs R s (xs ++ a ∷ []) (out ++ more) s'
  runs_last s xs a out more m s' h k = runs_append s xs (a ∷ []) out more m s' h (runs_one m a more s' k)
