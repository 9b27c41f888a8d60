-- An input that is read chunk by chunk.
use Rattle.std.proofs.Common.{◌≡◌, ℕ, ◌<◌, List, [], ◌∷◌, ◌++◌, length, take, Option, Result, OnOk, sym, refl, ap, subst, subst₂, ◌∙◌}
use Rattle.std.proofs.KnownBytes.{Consumes-nil, Consumes-trans, Appends-nil, Appends-trans}
use Rattle.std.proofs.lemmas.List.{append-nil, append_assoc}
use Rattle.std.proofs.lemmas.Result.{on_ok_weaker}
use Rattle.std.specs.Io.KnownBytes.{Appends, Consumes, IsAtEnd}
use Rattle.std.specs.List.{concat as whole}
use Rattle.network.specs.declared.counts.Counts.{Counts}
use Rattle.network.specs.Net.{Net}
use Rattle.book.specs.State.{Tables}
use Rattle.desk.specs.Runs.{Runs}
use Rattle.desk.specs.Feeding.{Desk, desk, Feeds, Ends, Appends as Adds}
use Rattle.desk.specs.Inputs.{AnsweredByLines}
use Rattle.desk.proofs.Runs.{runs_last}
use Rattle.station.specs.Serving.{Serves}

whole_last : (cs : List (List ℕ)) (c : List ℕ) → whole (cs ++ c ∷ []) ≡ whole cs ++ c
whole_last [] c = append-nil c
whole_last (b ∷ cs) c = ap (λ (bs : List ℕ). b ++ bs) (whole_last cs c) ∙ sym (append_assoc b (whole cs) c)

-- some chunks were read and fed to the desk, and all that it wrote was written
pub record Reads (w : Net) (n : Counts) (s : Desk) (before left held after : Option (List ℕ)) (s' : Desk) : Type 0 where
  pub chunks : List (List ℕ)
  pub out : List ℕ
  pub fed : Runs (Feeds w n) s chunks out s'
  pub read : Consumes before left (whole chunks)
  pub written : Appends held after out

module _ (w : Net) (n : Counts) (before held : Option (List ℕ)) where
  pub reads_none : (s : Desk) → Reads w n s before before held held s
  reads_none s = record {
    chunks = [];
    out = [];
    fed = record { written = refl; left = refl };
    read = Consumes-nil before;
    written = Appends-nil held;
  }

  pub reads_more : (s m s' : Desk) (left left' after after' : Option (List ℕ)) (c more : List ℕ) → Reads w n s before left held after m → Consumes left left' c → Feeds w n m c more s' → Appends after after' more → Reads w n s before left' held after' s'
  reads_more s m s' left left' after after' c more h r f a = record {
    chunks = h.chunks ++ c ∷ [];
    out = h.out ++ more;
    fed = runs_last (Feeds w n) s h.chunks c h.out more m s' h.fed f;
    read =
        subst
        (λ (bs : List ℕ). Consumes before left' bs)
        (sym (whole_last h.chunks c))
        (Consumes-trans before left left' (whole h.chunks) c h.read r);
    written = Appends-trans held after after' h.out more h.written a;
  }

  pub reads_all : AnsweredByLines → (x : Tables) (m d : Desk) (left left' after after' : Option (List ℕ)) (last : List ℕ) → Reads w n (desk x []) before left held after m → Consumes left left' [] → IsAtEnd left' → Ends w n m last d → Appends after after' last → Serves w n x before left' held after' d.tables
  reads_all law x m d left left' after after' last h r e f a =
      let answered =
      law w n x h.chunks (h.out ++ last) d
      (record { between = m; first = h.out; rest = last; begins = h.fed; goes_on = f; written = refl }) in
      record {
        input = whole h.chunks;
        out = h.out ++ last;
        replied = answered.replied;
        read = subst (λ (bs : List ℕ). Consumes before left' bs) (append-nil (whole h.chunks)) (Consumes-trans before left left' (whole h.chunks) [] h.read r);
        ended = e;
        written = Appends-trans held after after' h.out last h.written a;
      }

  -- a chunk that was fed to the desk at these counts, whose replies were added to an empty text and written
  pub reads_on : (k : Counts) (s m s' : Desk) (left left' after after' : Option (List ℕ)) (c bs before_it text written : List ℕ) → k ≡ n → c ≡ bs → before_it ≡ [] → written ≡ text → Reads w n s before left held after m → Consumes left left' c → Adds (Feeds w k m bs) before_it text s' → Appends after after' written → Reads w n s before left' held after' s'
  reads_on k s m s' left left' after after' c bs before_it text written same is empty told h r f a =
      reads_more s m s' left left' after after' c f.0 h r
      (subst₂ (λ (k : Counts) (bs : List ℕ). Feeds w k m bs f.0 s') same (sym is) f.1)
      (subst (λ (b : List ℕ). Appends after after' b) (told ∙ f.2 ∙ ap (λ (b : List ℕ). b ++ f.0) empty) a)

  -- the last chunk has no bytes
  pub reads_to_end : {E : Type 0} (law : AnsweredByLines) (result : Result (Unit {0}) E) (k : Counts) (x : Tables) (m d : Desk) (left left' after after' : Option (List ℕ)) (count : ℕ) (buf before_it text written : List ℕ) → k ≡ n → count ≡ 0 → 0 < length buf → before_it ≡ [] → written ≡ text → Reads w n (desk x []) before left held after m → Consumes left left' (take count buf) × (count ≡ 0 → 0 < length buf → IsAtEnd left') → Adds (Ends w k m) before_it text d → OnOk result (Appends after after' written) → OnOk result (Serves w n x before left' held after' d.tables)
  reads_to_end law result k x m d left left' after after' count buf before_it text written same none room empty told h r f =
      on_ok_weaker result
      (λ a.
      reads_all law x m d left left' after after' f.0 h
      (subst (λ (i : ℕ). Consumes left left' (take i buf)) none r.0)
      (r.1 none room)
      (subst (λ (k : Counts). Ends w k m f.0 d) same f.1)
      (subst (λ (b : List ℕ). Appends after after' b) (told ∙ f.2 ∙ ap (λ (b : List ℕ). b ++ f.0) empty) a))
