-- An input is answered line by line, however it is cut into chunks.
use Rattle.std.proofs.Common.{◌≡◌, ℕ, true, false, cond, eqb, List, [], ◌∷◌, ◌++◌, length, sym, refl, ap, subst, subst₂, ◌∙◌, arith, MatchBool}
use Rattle.std.specs.List.{concat as whole}
use Rattle.std.proofs.lemmas.List.{append-nil, append_assoc}
use Rattle.std.proofs.lemmas.Bool.{cond-false, ne_eqb, MatchBool-at_false}
use Rattle.network.specs.declared.counts.Counts.{Counts}
use Rattle.network.specs.Net.{Net}
use Rattle.book.specs.State.{Tables}
use Rattle.ticket.proofs.Reading.{long_line}
use Rattle.desk.specs.Holding.{kept}
use Rattle.desk.specs.Runs.{Runs}
use Rattle.desk.specs.Serving.{Served, Answered}
use Rattle.desk.specs.Feeding.{Desk, desk, Replies, Turns, Keeps, Takes, Feeds, Ends}
use Rattle.desk.specs.Inputs.{onto, lines, Unbroken, SplitAtTens, ByLines, AnsweredByLines}
use Rattle.desk.proofs.Runs.{runs_one, runs_append}
use Rattle.desk.proofs.Lines.{kept_push}

-- bytes that stand before some lines
abbrev before : List ℕ → List (List ℕ) → List (List ℕ)
before [] ls = ls
before (b ∷ p) ls = onto b (before p ls)

before_push : (p : List ℕ) (b : ℕ) (ls : List (List ℕ)) → before (p ++ b ∷ []) ls ≡ before p (onto b ls)
before_push [] b ls = refl
before_push (x ∷ p) b ls = ap (onto x) (before_push p b ls)

before_none : (x : ℕ) (p : List ℕ) → before (x ∷ p) [] ≡ (x ∷ p) ∷ []
before_none x [] = refl
before_none x (y ∷ p) = ap (onto x) (before_none y p)

before_line : (p line : List ℕ) (ls : List (List ℕ)) → before p (line ∷ ls) ≡ (p ++ line) ∷ ls
before_line [] line ls = refl
before_line (x ∷ p) line ls = ap (onto x) (before_line p line ls)

lines_after : (p bs : List ℕ) → Unbroken p → lines (p ++ bs) ≡ before p (lines bs)
lines_after [] bs h = refl
lines_after (x ∷ p) bs h = cond-false _ ([] ∷ lines (p ++ bs)) (onto x (lines (p ++ bs))) h.0 ∙ ap (onto x) (lines_after p bs h.1)

pub split_at_tens : SplitAtTens
split_at_tens = record {
  first = λ line rest h. lines_after line (10 ∷ rest) h ∙ before_line line [] (lines rest) ∙ simp append-nil;
  last = λ b line h. ap lines (sym (append-nil (b ∷ line))) ∙ lines_after (b ∷ line) [] h ∙ before_none b line;
  none = refl;
}

module _ (w : Net) (n : Counts) where
  -- what is kept of a line is answered as the whole line
  answered_kept : (p : List ℕ) (t : Tables) (said : List ℕ) (t' : Tables) → Answered w n t (kept p) said t' → Answered w n t p said t'
  unfolding Answered
  answered_kept p t said t' a = subst (λ c. Served w n t c said t') (long_line p) a

  replied_kept : (p : List ℕ) (t : Tables) (out : List ℕ) (t' : Tables) → Replies w n t (kept p) out t' → Replies w n t p out t'
  replied_kept p t out t' r = record {
    said = r.said;
    answered = answered_kept p t r.said t' r.answered;
    written = r.written;
  }

  -- a line that has begun
  begun : (x : ℕ) (p : List ℕ) → eqb (length (kept (x ∷ p))) 0 ≡ false
  begun x p = ne_eqb (length (kept (x ∷ p))) 0 (λ e. omega arith)

  -- the input ends after the bytes p of a line
  at_end : (p : List ℕ) (t : Tables) (out : List ℕ) (d : Desk) → Ends w n (desk t (kept p)) out d → ByLines w n t (before p []) out d
  at_end [] t out d e = record {
    replied = record { written = e.written; left = ap (λ (s : Desk). s.tables) e.left };
    emptied = ap (λ (s : Desk). s.line) e.left;
  }
  at_end (x ∷ p) t out d e =
      let turns : Turns w n (desk t (kept (x ∷ p))) out d = MatchBool-at_false _ _ (begun x p) e in
      record {
        replied =
            subst
            (λ (ls : List (List ℕ)). Runs (Replies w n) t ls out d.tables)
            (sym (before_none x p))
            (runs_one (Replies w n) t (x ∷ p) out d.tables (replied_kept (x ∷ p) t out d.tables turns.replied));
        emptied = turns.emptied;
      }

  -- the input bs, after the bytes p of a line
  run : (bs p : List ℕ) (t : Tables) (out last : List ℕ) (m d : Desk) → Feeds w n (desk t (kept p)) bs out m → Ends w n m last d → ByLines w n t (before p (lines bs)) (out ++ last) d
  run [] p t out last m d f e =
      subst
      (λ (o : List ℕ). ByLines w n t (before p []) (o ++ last) d)
      (sym f.written)
      (at_end p t last d (subst (λ (s : Desk). Ends w n s last d) f.left e))
  run (b ∷ bs) p t out last m d f e =
      elim (eqb b 10) as (λ v. MatchBool v (Turns w n (desk t (kept p)) f.first f.between) (Keeps (desk t (kept p)) b f.first f.between) → ByLines w n t (before p (cond v ([] ∷ lines bs) (onto b (lines bs)))) (out ++ last) d) [
        | true ↦
            λ h.
            let r = run bs [] f.between.tables f.rest last m d (subst (λ (l : List ℕ). Feeds w n (desk f.between.tables l) bs f.rest m) h.emptied f.goes_on) e in
            subst
            (λ (ls : List (List ℕ)). ByLines w n t ls (out ++ last) d)
            (ap (λ (l : List ℕ). l ∷ lines bs) (sym (append-nil p)) ∙ sym (before_line p [] (lines bs)))
            (record {
              replied = record {
                between = f.between.tables;
                first = f.first;
                rest = f.rest ++ last;
                begins = replied_kept p t f.first f.between.tables h.replied;
                goes_on = r.replied;
                written = ap (λ (o : List ℕ). o ++ last) f.written ∙ append_assoc f.first f.rest last;
              };
              emptied = r.emptied;
            })
        | false ↦
            λ h.
            let r = run bs (p ++ b ∷ []) t f.rest last m d (subst (λ (s : Desk). Feeds w n s bs f.rest m) (h.left ∙ ap (desk t) (kept_push p b)) f.goes_on) e in
            subst₂
            (λ (ls : List (List ℕ)) (o : List ℕ). ByLines w n t ls (o ++ last) d)
            (before_push p b (lines bs))
            (sym (f.written ∙ ap (λ (o : List ℕ). o ++ f.rest) h.written))
            r
      ]
      f.begins

  -- chunk after chunk
  chunks_fed : (chunks : List (List ℕ)) (s : Desk) (out : List ℕ) (m : Desk) → Runs (Feeds w n) s chunks out m → Feeds w n s (whole chunks) out m
  chunks_fed [] s out m h = h
  chunks_fed (c ∷ cs) s out m h =
      subst
      (λ (o : List ℕ). Feeds w n s (c ++ whole cs) o m)
      (sym h.written)
      (runs_append (Takes w n) s c (whole cs) h.first h.rest h.between m h.begins (chunks_fed cs h.between h.rest m h.goes_on))

pub answered_by_lines : AnsweredByLines
answered_by_lines w n t chunks out d h =
    subst
    (λ (o : List ℕ). ByLines w n t (lines (whole chunks)) o d)
    (sym h.written)
    (run w n (whole chunks) [] t h.first h.rest h.between d (chunks_fed w n chunks (desk t []) h.first h.between h.begins) h.goes_on)
