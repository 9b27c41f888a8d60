-- Parts of a table, one behind the other, written one after the other.
use Rattle.std.proofs.Common.{◌≡◌, ℕ, ◌+◌, ◌-◌, ◌*◌, ◌<◌, ◌≤◌, List, length, slice_range, take, drop, sym, ap, ◌∙◌, subst, below_more, arith}
use Rattle.std.proofs.Math.Nat.{mul-le-mul_right}
use Rattle.std.proofs.lemmas.List.{length-append, length-take, length-drop, take-take, drop-drop}
use Rattle.std.proofs.lemmas.Slice.{between_is, take-put_mid_below, between-put_mid}
use borrow.Rule.Slice.PartMut.{put_mid}

pub length-put_mid : (a k : ℕ) (xs ys : List ℕ) → a + k ≤ length xs → length ys ≡ k → length (put_mid a k xs ys) ≡ length xs
length-put_mid a k xs ys fits long = simp (length-append, length-take, length-drop) (omega arith)

-- a part that lies before a write stays
slice_range-put_mid_below : (a k b e : ℕ) (xs ys : List ℕ) → e ≤ a → a ≤ length xs → slice_range (put_mid a k xs ys) b e ≡ slice_range xs b e
slice_range-put_mid_below a k b e xs ys h l =
    between_is (put_mid a k xs ys) b e ∙ ap (drop b) (take-put_mid_below a k xs ys e h l) ∙ sym (between_is xs b e)

-- one part more is written, behind those before it
pub parts_more : (R : ℕ → List ℕ → Type 0) (from to : ℕ → ℕ) (m a k : ℕ) (xs ys : List ℕ) → a ≡ from m → ((i : ℕ) → i < m → to i ≤ from m) → from m ≤ length xs → length ys ≡ to m - from m
    → ((i : ℕ) → i < m → R i (slice_range xs (from i) (to i))) → R m ys
    → (i : ℕ) → i < m + 1 → R i (slice_range (put_mid a k xs ys) (from i) (to i))
parts_more R from to m a k xs ys at behind fits long parts new =
    subst (λ b. (i : ℕ) → i < m + 1 → R i (slice_range (put_mid b k xs ys) (from i) (to i))) (sym at)
    (below_more (λ i. R i (slice_range (put_mid (from m) k xs ys) (from i) (to i))) m
    (λ i h. subst (R i) (sym (slice_range-put_mid_below (from m) k (from i) (to i) xs ys (behind i h) fits)) (parts i h))
    (subst (R m) (sym (between-put_mid (from m) k xs ys (to m) fits long)) new))

-- parts of one width lie behind each other
pub behind : (width m i : ℕ) → i < m → i * width + width ≤ m * width
behind width m i h =
    let next : i + 1 ≤ m = omega arith in
    omega (arith, mul-le-mul_right width next)

-- a part of a part
pub part_of : (a b c d : ℕ) (xs : List ℕ) → a + d ≤ b → slice_range (slice_range xs a b) c d ≡ slice_range xs (a + c) (a + d)
part_of a b c d xs h =
    let within : d ≤ b - a = omega arith in
    let same : d - c ≡ a + d - (a + c) = omega arith in
    between_is (slice_range xs a b) c d
    ∙ ap (drop c) (take-take d (b - a) (drop a xs) within)
    ∙ sym (between_is (drop a xs) c d)
    ∙ ap (take (d - c)) (drop-drop c a xs)
    ∙ ap (λ k. take k (drop (a + c) xs)) same
