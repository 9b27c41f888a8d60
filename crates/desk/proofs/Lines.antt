-- What is kept of a line.
use Rattle.std.proofs.Common.{◌≡◌, ℕ, ◌+◌, ◌<◌, ◌≤◌, List, [], ◌∷◌, ◌++◌, length, take, set, sym, ap, ◌∙◌, ⊎_elim, arith}
use Rattle.std.proofs.lemmas.List.{take_all, take_at, take-take, take-append-le, take_more_set, length-take-le, length_push}
use Rattle.std.proofs.lemmas.Bool.{cases_lt}
use Rattle.desk.specs.Holding.{kept}

-- a byte for which there is room
pub room_for : (bytes : List ℕ) (n b : ℕ) → length bytes ≡ 81 → n < 81 → take (n + 1) (set bytes n b) ≡ kept (take n bytes ++ b ∷ [])
room_for bytes n b long h =
    let l = length-take-le n bytes (omega arith) in
    let p = length_push (take n bytes) b in
    take_more_set bytes n b (omega arith) ∙ sym (take_all 81 (take n bytes ++ b ∷ []) (omega arith))

-- a byte past the first 81
pub no_room : (bytes : List ℕ) (n b : ℕ) → length bytes ≡ 81 → 81 ≤ n → n ≤ 81 → take n bytes ≡ kept (take n bytes ++ b ∷ [])
no_room bytes n b long h few = let l = length-take-le n bytes (omega arith) in sym (take_at (take n bytes) (b ∷ []) 81 (omega arith))

-- nothing is lost by what was not kept before
pub kept_push : (p : List ℕ) (b : ℕ) → kept (kept p ++ b ∷ []) ≡ kept (p ++ b ∷ [])
kept_push p b =
    ⊎_elim
    (λ (h : length p < 81). ap (λ (l : List ℕ). kept (l ++ b ∷ [])) (take_all 81 p (omega arith)))
    (λ (h : 81 ≤ length p).
    let l = length-take-le 81 p h in
    take-append-le 81 (kept p) (b ∷ []) (omega arith) ∙ take-take 81 81 p (omega arith) ∙ sym (take-append-le 81 p (b ∷ []) h))
    (cases_lt (length p) 81)
