-- One more entry is written.
use Rattle.std.proofs.Common.{◌≡◌, ℕ, ◌+◌, ◌<◌, ◌≤◌, List, [], ◌∷◌, ◌++◌, map, length, get_or, take, drop, set, replicate, sym, ap, ◌∙◌, arith}
use Rattle.std.specs.List.{range_with_len}
use Rattle.network.specs.Tables.{filled, tabled}
use Rattle.std.proofs.lemmas.List.FromFn.{length-range_with_len, length-map-range_with_len, get_or-map-range_with_len, map-range_with_len_more}
use Rattle.std.proofs.lemmas.List.{map-id, set_at, take_at, drop_at, drop_more, replicate_more, append_assoc, length-replicate, length-append, length-drop, get_or_append_left}

-- a front of i entries, and then what stood there: the next entry is written
pub front_more : {A : Type 0} (front front' old : List A) (i : ℕ) (v : A) → i < length old → length front ≡ i → front ++ v ∷ [] ≡ front'
    → set (front ++ drop i old) i v ≡ front' ++ drop (i + 1) old
front_more {A} front front' old i v h long e =
    ap (λ l. set (front ++ l) i v) (drop_more old i v h)
    ∙ set_at front (get_or old i v) (drop (i + 1) old) v i long
    ∙ sym (append_assoc front (v ∷ []) (drop (i + 1) old))
    ∙ ap (λ l. l ++ drop (i + 1) old) e

pub filled_more : {A : Type 0} (old : List A) (i : ℕ) (v : A) → i < length old → set (replicate i v ++ drop i old) i v ≡ replicate (i + 1) v ++ drop (i + 1) old
filled_more old i v h = front_more (replicate i v) (replicate (i + 1) v) old i v h (length-replicate i v) (replicate_more i v)

pub length-filled : {A : Type 0} (n : ℕ) (v : A) (old : List A) → length (filled n v old) ≡ length old
length-filled n v old = simp (length-append, length-replicate, length-drop) (omega arith)

pub tabled_more : {A : Type 0} (old : List A) (f : ℕ → A) (i : ℕ) (v : A) → i < length old → v ≡ f i → set (map f (range_with_len 0 i) ++ drop i old) i v ≡ map f (range_with_len 0 (i + 1)) ++ drop (i + 1) old
tabled_more old f i v h e =
    front_more (map f (range_with_len 0 i)) (map f (range_with_len 0 (i + 1))) old i v h (length-map-range_with_len f 0 i)
    (ap (λ x. map f (range_with_len 0 i) ++ x ∷ []) e ∙ sym (map-range_with_len_more f 0 i i (omega arith)))

-- the step of a loop that writes f i at each place i
pub tabled_step : {A : Type 0} (cur old : List A) (f : ℕ → A) (i : ℕ) (v : A) → cur ≡ tabled i f old → i < length old → v ≡ f i → set cur i v ≡ tabled (i + 1) f old
tabled_step cur old f i v inv h e = ap (λ l. set l i v) inv ∙ tabled_more old f i v h e

-- what is told of the entries below n
pub take-tabled : {A : Type 0} (n : ℕ) (f : ℕ → A) (old : List A) → take n (tabled n f old) ≡ map f (range_with_len 0 n)
take-tabled n f old = take_at (map f (range_with_len 0 n)) (drop n old) n (length-map-range_with_len f 0 n)

pub get_or-tabled : {A : Type 0} (n : ℕ) (f : ℕ → A) (old : List A) (i : ℕ) (d : A) → i < n → get_or (tabled n f old) i d ≡ f i
get_or-tabled n f old i d h =
    let l : i < length (map f (range_with_len 0 n)) = rw length-map-range_with_len h in
    get_or_append_left (map f (range_with_len 0 n)) (drop n old) d i l ∙ get_or-map-range_with_len f 0 n i i d h (omega arith)

pub length-tabled : {A : Type 0} (n : ℕ) (f : ℕ → A) (old : List A) → n ≤ length old → length (tabled n f old) ≡ length old
length-tabled n f old h = simp (length-append, length-map-range_with_len, length-drop) (omega arith)

-- to write the same entries again changes nothing
pub tabled_again : {A : Type 0} (n : ℕ) (f : ℕ → A) (cur old : List A) → cur ≡ tabled n f old → cur ≡ tabled n f cur
tabled_again n f cur old e =
    e ∙ ap (λ l. map f (range_with_len 0 n) ++ l) (sym (ap (drop n) e ∙ drop_at (map f (range_with_len 0 n)) (drop n old) n (length-map-range_with_len f 0 n)))

-- the step of a loop that counts up
pub counted_more : (old : List ℕ) (i v : ℕ) (cur : List ℕ) → cur ≡ range_with_len 0 i ++ drop i old → i < length old → v ≡ i → set cur i v ≡ range_with_len 0 (i + 1) ++ drop (i + 1) old
counted_more old i v cur inv h e =
    let more : range_with_len 0 i ++ i ∷ [] ≡ range_with_len 0 (i + 1) = sym (simp map-id at (map-range_with_len_more (λ (x : ℕ). x) 0 i i (omega arith))) in
    ap (λ l. set l i v) inv ∙ front_more (range_with_len 0 i) (range_with_len 0 (i + 1)) old i v h (length-range_with_len 0 i) (ap (λ x. range_with_len 0 i ++ x ∷ []) e ∙ more)
