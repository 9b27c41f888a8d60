-- What is written, and what stands then, where one thing is done after another.
use Rattle.std.specs.Prelude.{◌≡◌, List, [], ◌∷◌, ◌++◌}

-- nothing is written, and nothing changes
pub record Rests {S B : Type 0} (s : S) (out : List B) (s' : S) : Type 0 where
  pub written : out ≡ []
  pub left : s' ≡ s

-- P, and from where it leads Q: what Q writes follows what P writes
pub record Then {S B : Type 0} (P Q : S → List B → S → Type 0) (s : S) (out : List B) (s' : S) : Type 0 where
  pub between : S
  pub first : List B
  pub rest : List B
  pub begins : P s first between
  pub goes_on : Q between rest s'
  pub written : out ≡ first ++ rest

-- R for each of the inputs, one after the other
abbrev pub Runs : {S A B : Type 0} → (S → A → List B → S → Type 0) → S → List A → List B → S → Type 0
Runs R s [] = Rests s
Runs R s (a ∷ more) = Then (λ s. R s a) (λ s. Runs R s more) s
