-- The records of a section, by their bytes.
use Rattle.std.proofs.Common.{◌≡◌, ℕ, zero, suc, ◌+◌, ◌*◌, ◌/◌, ◌<◌, List, length, get_or, take, drop, sym, ap, ◌∙◌, arith}
use Rattle.std.specs.Simd.{first_chunks}
use Rattle.std.proofs.Math.Nat.{mul-div_cancel_left}
use Rattle.std.proofs.lemmas.List.{drop-drop}

-- record i, of n bytes, among the first k
pub get_or-first_chunks : {X : Type 0} (n k : ℕ) (xs : List X) (i : ℕ) (d : List X) → i < k → get_or (first_chunks n k xs) i d ≡ take n (drop (n * i) xs)
get_or-first_chunks n zero xs i d h = absurd (omega arith)
get_or-first_chunks n (suc k) xs zero d h = let z : n * 0 ≡ 0 = omega arith in ap (λ j. take n (drop j xs)) (sym z)
get_or-first_chunks n (suc k) xs (suc i) d h =
    let z : n + n * i ≡ n * suc i = omega arith in
    get_or-first_chunks n k (drop n xs) i d (omega arith) ∙ ap (take n) (drop-drop (n * i) n xs ∙ ap (λ j. drop j xs) z)

-- what is read of the bytes of record i
pub record_is : {R : Type 0} (n : ℕ) (record-in : List ℕ → ℕ → R) (bs : List ℕ) (chunks : List (List ℕ)) (i : ℕ) (own d : List ℕ) (r : R) → ((cs : List ℕ) (j : ℕ) → record-in (take n (drop (n * j) cs)) 0 ≡ record-in cs j)
    → chunks ≡ first_chunks n (length bs / n) bs → length chunks ≡ length bs / n → i < length chunks → own ≡ get_or chunks i d → r ≡ record-in own 0 → r ≡ record-in bs i
record_is n record-in bs chunks i own d r apart front long h e f =
    f
    ∙ ap (λ (o : List ℕ). record-in o 0) (e ∙ ap (λ (cs : List (List ℕ)). get_or cs i d) front ∙ get_or-first_chunks n (length bs / n) bs i d (omega arith))
    ∙ apart bs i

-- how many records a section has
pub count_is : (n count : ℕ) (bs : List ℕ) → 0 < n → length bs ≡ n * count → length bs / n ≡ count
count_is n count bs h e = ap (λ m. m / n) e ∙ mul-div_cancel_left count h
