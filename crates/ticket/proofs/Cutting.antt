-- A line is cut byte by byte.
use Rattle.std.proofs.Common.{◌≡◌, ℕ, suc, ◌+◌, ◌-◌, ◌*◌, ◌<◌, ◌≤◌, Bool, true, false, not, ◌&&◌, List, [], ◌∷◌, ◌++◌, map, length, Some, None, sym, ap, ◌∙◌, add-one, append_assoc, arith}
use Rattle.std.specs.List.{range_with_len, flat_map}
use Rattle.std.proofs.lemmas.List.{append-nil, get_or_past}
use Rattle.std.proofs.lemmas.Bool.{cond-false, cond-true, not_from_true, not_from_false}
use Rattle.fault.specs.Judging.{Judgement, first}
use Rattle.fault.proofs.Judged.{append_some, append_none}
use Rattle.fault.specs.declared.ticket.WordFault.{WordFault}
use Rattle.fault.specs.declared.ticket.WordFault.TheVariants.{Large}
use Rattle.arrayvec.specs.ArrayVec.{array_vec_len}
use Rattle.ticket.specs.declared.words.Words.{Words}
use Rattle.ticket.specs.Lines.{Token, of_word, byte, run_start, part, run, too_large, of_run, of_byte, judged_at, of_line, token_of, word_from, word_at, words}

-- what is judged from an index on, and the words that end there or later
abbrev pub judged_from : List ℕ → ℕ → List (Judgement WordFault)
judged_from bs i = flat_map (judged_at bs) (range_with_len i (length bs - i)) ++ of_run bs (length bs) ∷ []

abbrev pub words_from : List ℕ → ℕ → List Token
words_from bs i = flat_map (word_at bs) (range_with_len i (length bs + 1 - i))

-- the words of the line are held up to i, but for the run that starts at s; what may still refuse the line is js
pub record IsCutTo (bs : List ℕ) (js : List (Judgement WordFault)) (w : Words) (s i : ℕ) : Type 0 where
  pub same_line : w.line.now ≡ bs
  pub sound : first (of_line bs) ≡ first js
  pub held : map token_of w.held.items ++ words_from bs i ≡ words bs
  pub start : s ≡ run_start bs i
  pub before : s ≤ i
  pub room : 2 * array_vec_len w.held ≤ s

-- before the byte at i, and the run before it, are judged; and once the run is
abbrev pub IsBefore : List ℕ → Words → ℕ → ℕ → Type 0
IsBefore bs w s i = IsCutTo bs (judged_from bs i) w s i

abbrev pub IsAt : List ℕ → Words → ℕ → ℕ → Type 0
IsAt bs w s i = IsCutTo bs (of_byte bs i ++ judged_from bs (i + 1)) w s (i + 1)

-- what is known of the run from s on, up to e, where it is too large, and where its word is held
abbrev pub IsLarge : List ℕ → ℕ → ℕ → WordFault → Type 0
IsLarge bs s e f = (too_large (part bs s e) ≡ true) × (f ≡ Large (s + 1))

abbrev pub IsHeld : Words → Words → ℕ → ℕ → Type 0
IsHeld w u s e = (too_large (part w.line.now s e) ≡ false) × (map token_of u.held.items ≡ map token_of w.held.items ++ word_from w.line.now s e)

next_judged : (bs : List ℕ) (i : ℕ) → i < length bs → judged_from bs i ≡ of_run bs i ∷ of_byte bs i ++ judged_from bs (i + 1)
next_judged bs i h = let e : length bs - i ≡ suc (length bs - (i + 1)) = omega arith in rw e

next_words : (bs : List ℕ) (i : ℕ) → i ≤ length bs → words_from bs i ≡ word_at bs i ++ words_from bs (i + 1)
next_words bs i h = let e : length bs + 1 - i ≡ suc (length bs + 1 - (i + 1)) = omega arith in rw e

-- the run that ends with the line is judged last, and its word is the last
last_judged : (bs : List ℕ) → judged_from bs (length bs) ≡ of_run bs (length bs) ∷ []
last_judged bs = let e : length bs - length bs ≡ 0 = omega arith in rw e

last_words : (bs : List ℕ) → words_from bs (length bs) ≡ word_at bs (length bs)
last_words bs = let e : length bs + 1 - length bs ≡ 1 = omega arith in rw e (append-nil (word_at bs (length bs)))

module _ (bs : List ℕ) (w : Words) (s i : ℕ) (cut : IsBefore bs w s i) where
  run_is : (t : Bool) → of_word (byte bs i) ≡ false → too_large (part w.line.now s i) ≡ t → (of_run bs i).sound ≡ not t
  run_is t o h =
      ap (λ b. not (not b && too_large (run bs i))) o ∙ ap not ((λ k. too_large (part (sym cut.same_line k) (sym cut.start k) i)) ∙ h)

  word_is : of_word (byte bs i) ≡ false → word_from w.line.now s i ≡ word_at bs i
  word_is o = (λ k. word_from (cut.same_line k) (cut.start k) i) ∙ sym (cond-true _ _ _ (not_from_false _ o))

  -- the run that ends at i is too large
  large : (f : WordFault) (js : List (Judgement WordFault)) → of_word (byte bs i) ≡ false → IsLarge w.line.now s i f → first (of_run bs i ∷ js) ≡ Some f
  large f js o h = cond-false _ _ _ (run_is true o h.0) ∙ ap (λ s. Some (Large (s + 1))) (sym cut.start) ∙ ap (λ f. Some f) (sym h.1)

  pub large_here : (f : WordFault) → i < length bs → of_word (byte bs i) ≡ false → IsLarge w.line.now s i f → first (of_line bs) ≡ Some f
  large_here f h o t = cut.sound ∙ ap first (next_judged bs i h) ∙ large f (of_byte bs i ++ judged_from bs (i + 1)) o t

  -- the run goes on with byte i
  pub goes_on : i < length bs → of_word (byte bs i) ≡ true → IsAt bs w s i
  goes_on h o = record {
    same_line = cut.same_line;
    sound = cut.sound ∙ ap first (next_judged bs i h) ∙ cond-true _ _ _ (ap (λ b. not (not b && too_large (run bs i))) o);
    held = rw (← rw (cond-false _ _ _ (not_from_true _ o)) at (next_words bs i (omega arith))) cut.held;
    start = cut.start ∙ sym (ap (run_start bs) (add-one i) ∙ cond-true _ _ _ o);
    before = omega (arith, cut.before);
    room = cut.room;
  }

  -- the run ends before byte i, and its word is held
  pub ends_run : (u : Words) → i < length bs → of_word (byte bs i) ≡ false → u.line ≡ w.line → 2 * array_vec_len u.held ≤ i + 1 → IsHeld w u s i → IsAt bs u (i + 1) i
  ends_run u h o same room new = record {
    same_line = ap (λ r. r.now) same ∙ cut.same_line;
    sound = cut.sound ∙ ap first (next_judged bs i h) ∙ cond-true _ _ _ (run_is false o new.0);
    held = rw (new.1, word_is o, append_assoc, ← next_words bs i (omega arith)) cut.held;
    start = sym (ap (run_start bs) (add-one i) ∙ cond-false _ _ _ o ∙ sym (add-one i));
    before = omega arith;
    room = room;
  }

module _ (bs : List ℕ) (w : Words) (s i : ℕ) (at : IsAt bs w s i) where
  pub byte_fault : (f : WordFault) → first (of_byte bs i) ≡ Some f → first (of_line bs) ≡ Some f
  byte_fault f h = at.sound ∙ append_some (of_byte bs i) (judged_from bs (i + 1)) f h

  pub byte_sound : first (of_byte bs i) ≡ None → IsBefore bs w s (i + 1)
  byte_sound h = record {
    same_line = at.same_line;
    sound = at.sound ∙ append_none (of_byte bs i) (judged_from bs (i + 1)) h;
    held = at.held;
    start = at.start;
    before = at.before;
    room = at.room;
  }

-- the line is cut up to its end
module _ (bs : List ℕ) (w : Words) (s : ℕ) (cut : IsBefore bs w s (length bs)) where
  past : of_word (byte bs (length bs)) ≡ false
  past = ap of_word (get_or_past bs (length bs) 0 (omega arith))

  pub large_last : (f : WordFault) → IsLarge w.line.now s (length bs) f → first (of_line bs) ≡ Some f
  large_last f t = cut.sound ∙ ap first (last_judged bs) ∙ large bs w s (length bs) cut f [] past t

  pub whole : (u : Words) → u.line ≡ w.line → IsHeld w u s (length bs) → (first (of_line bs) ≡ None) × (u.line.now ≡ bs) × (map token_of u.held.items ≡ words bs)
  whole u same new = (
    cut.sound ∙ ap first (last_judged bs) ∙ cond-true _ _ _ (run_is bs w s (length bs) cut false past new.0),
    ap (λ r. r.now) same ∙ cut.same_line,
    new.1 ∙ ap (λ ts. map token_of w.held.items ++ ts) (word_is bs w s (length bs) cut past ∙ sym (last_words bs)) ∙ cut.held,
  )
