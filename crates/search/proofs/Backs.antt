-- A path is read off the labels, from its last step to its first.
use Rattle.std.proofs.Common.{◌≡◌, ℕ, zero, suc, ◌+◌, ◌-◌, ◌<◌, ◌≤◌, List, [], ◌∷◌, ◌++◌, length, take, drop, get_or, set, length-append, Option, Some, None, append_assoc, refl, sym, ap, ◌∙◌, arith}
use Rattle.std.proofs.lemmas.List.{same_from_push, take_more, drop_more, set_at, length-take-le}
use Rattle.network.specs.declared.step.Step.{Step}
use Rattle.semilightpath.specs.declared.point.Point.{Point}
use Rattle.search.specs.Labels.{Labels, back_from, ending, trail}

module _ {V : Type 0} (ls : Labels V) where
  trail_some_left : (n : ℕ) (a : Point) → 1 ≤ length (trail ls n a) → 1 ≤ n
  trail_some_left zero a h = absurd (omega (arith, h))
  trail_some_left (suc n) a h = omega arith

  pub trail_none : (n : ℕ) (a : Point) → back_from ls a.node a.entered ≡ None → trail ls n a ≡ []
  trail_none zero a h = refl
  trail_none (suc n) a h = ap (λ r. ending r (trail ls n)) h

  trail_some : (n : ℕ) (a : Point) (r : Step × Point) → back_from ls a.node a.entered ≡ Some r → trail ls (suc n) a ≡ trail ls n r.1 ++ r.0 ∷ []
  trail_some n a r h = ap (λ z. ending z (trail ls n)) h

  -- with one step less that may come, where n may come
  pub trail_back : (n : ℕ) (a : Point) (r : Step × Point) → 1 ≤ n → back_from ls a.node a.entered ≡ Some r → trail ls n a ≡ trail ls (n - 1) r.1 ++ r.0 ∷ []
  trail_back zero a r h e = absurd (omega (arith, h))
  trail_back (suc n) a r h e = trail_some n a r e ∙ ap (λ m. trail ls m r.1 ++ r.0 ∷ []) (omega arith)

  -- one more is counted
  pub count_more : (end a : Point) (limit n : ℕ) (r : Step × Point) → n < limit → back_from ls a.node a.entered ≡ Some r → length (trail ls limit end) ≡ n + length (trail ls (limit - n) a) → length (trail ls limit end) ≡ (n + 1) + length (trail ls (limit - (n + 1)) r.1)
  count_more end a limit n r h e inv =
      let some : 1 ≤ limit - n = omega arith in
      let less : limit - n - 1 ≡ limit - (n + 1) = omega arith in
      let long = ap length (trail_back (limit - n) a r some e ∙ ap (λ m. trail ls m r.1 ++ r.0 ∷ []) less) ∙ length-append (trail ls (limit - (n + 1)) r.1) (r.0 ∷ []) in
      omega (arith, inv, long)

  -- one more is written: the place before those that are written gets the last step that is left
  pub left_back : (n : ℕ) (a : Point) (r : Step × Point) (P : List Step) (m : ℕ) → m < length P → back_from ls a.node a.entered ≡ Some r → trail ls n a ≡ take (m + 1) P → (trail ls (n - 1) r.1 ≡ take m P) × (r.0 ≡ get_or P m r.0)
  left_back n a r P m h e inv =
      let long = ap length inv ∙ length-take-le (m + 1) P (omega arith) in
      let some : 1 ≤ n = trail_some_left n a (omega (arith, long)) in
      same_from_push (trail ls (n - 1) r.1) (take m P) r.0 (get_or P m r.0) (sym (trail_back n a r some e) ∙ inv ∙ take_more P m r.0 h)

  -- none is left where the path begins
  pub none_left : (n : ℕ) (a : Point) (P : List Step) (m : ℕ) → m ≤ length P → back_from ls a.node a.entered ≡ None → trail ls n a ≡ take m P → m ≡ 0
  none_left n a P m h e inv =
      let long = ap length inv ∙ length-take-le m P h in
      let none = ap length (trail_none n a e) in
      omega (arith, long, none)

-- a table from whose end one more place is written
write_more : (old P : List Step) (m : ℕ) (v : Step) → m < length P → length old ≡ length P → v ≡ get_or P m v → set (take (m + 1) old ++ drop (m + 1) P) m v ≡ take m old ++ drop m P
write_more old P m v h k e =
    ap (λ l. set (l ++ drop (m + 1) P) m v) (take_more old m v (omega arith))
    ∙ ap (λ l. set l m v) (append_assoc (take m old) (get_or old m v ∷ []) (drop (m + 1) P))
    ∙ set_at (take m old) (get_or old m v) (drop (m + 1) P) v m (length-take-le m old (omega arith))
    ∙ ap (λ l. take m old ++ l) (ap (λ z. z ∷ drop (m + 1) P) e ∙ sym (drop_more P m v h))

-- one turn of the loop that writes, n steps being written
pub turn : {V : Type 0} (ls : Labels V) (old cur P : List Step) (limit n : ℕ) (a : Point) (l : Option (Step × Point)) (r : Step × Point) → cur ≡ take (length old - n) old ++ drop (length old - n) P → trail ls (limit - n) a ≡ take (length old - n) P
    → n < length old → length old ≡ length P → length cur ≡ length old → l ≡ back_from ls a.node a.entered → l ≡ Some r
    → (set cur (length cur - 1 - n) r.0 ≡ take (length old - (n + 1)) old ++ drop (length old - (n + 1)) P) × (trail ls (limit - (n + 1)) r.1 ≡ take (length old - (n + 1)) P)
turn {V} ls old cur P limit n a l r written left h long same is e =
    let m : ℕ = length old - (n + 1) in
    let more : length old - n ≡ m + 1 = omega arith in
    let place : length cur - 1 - n ≡ m = omega (arith, same) in
    let less : limit - n - 1 ≡ limit - (n + 1) = omega arith in
    let within : m < length P = omega arith in
    let back = left_back ls (limit - n) a r P m within (sym is ∙ e) (left ∙ ap (λ k. take k P) more) in (
      ap (λ k. set cur k r.0) place ∙ ap (λ l. set l m r.0) (written ∙ ap (λ k. take k old ++ drop k P) more) ∙ write_more old P m r.0 within long back.1,
      ap (λ k. trail ls k r.1) (sym less) ∙ back.0,
    )

-- at a path's beginning all is written
pub all_written : {V : Type 0} (ls : Labels V) (old cur P : List Step) (limit n : ℕ) (a : Point) (l : Option (Step × Point)) → cur ≡ take (length old - n) old ++ drop (length old - n) P → trail ls (limit - n) a ≡ take (length old - n) P
    → length old ≡ length P → l ≡ back_from ls a.node a.entered → l ≡ None → cur ≡ P
all_written {V} ls old cur P limit n a l written left long is e =
    let none = none_left ls (limit - n) a P (length old - n) (omega (arith, long)) (sym is ∙ e) left in
    written ∙ ap (λ k. take k old ++ drop k P) none
