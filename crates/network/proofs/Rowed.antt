-- The row of a node, written one span after the other, and the rows of all nodes, one behind the other.
use Rattle.std.proofs.Common.{◌≡◌, ℕ, zero, suc, ◌+◌, ◌-◌, ◌<◌, ◌≤◌, Bool, cond, eqb, ltb, List, [], ◌∷◌, ◌++◌, filter, length, slice_range, take, drop, set, sym, refl, ap, ◌∙◌, below_more, arith}
use Rattle.std.specs.List.{range_with_len}
use Rattle.std.proofs.lemmas.Bool.{cond-true, cond-false, eq-eqb, ne_eqb}
use Rattle.std.proofs.lemmas.Bool.Decides.{nat_tests}
use Rattle.std.proofs.lemmas.List.{append-nil, append_assoc, map-id, length-append, length-take-le, get_or-take, take_at, drop_at, take-append-le, take-take, get_or-set_same, get_or-set_other}
use Rattle.std.proofs.lemmas.List.FromFn.{filter_of_map_range_with_len_more, length-range_with_len}
use Rattle.std.proofs.lemmas.List.Sums.{length-filter, count_by-le-length}
use Rattle.std.proofs.lemmas.Slice.{between_is}
use Rattle.network.specs.declared.span.Span.{Span}
use Rattle.network.specs.Limits.{span_at, no_span}
use Rattle.network.specs.Indexes.{leaving_by, start_at, Rows}
use Rattle.network.specs.Tables.{laid}
use Rattle.network.proofs.Filled.{front_more}

-- one number more
kept_more : (p : ℕ → Bool) (n : ℕ) → filter p (range_with_len 0 (n + 1)) ≡ filter p (range_with_len 0 n) ++ cond (p n) (n ∷ []) []
kept_more p n = simp map-id at (filter_of_map_range_with_len_more p (λ (e : ℕ). e) 0 n n (omega arith))

length-filter_fewer : (p : ℕ → Bool) (n m k : ℕ) → n + m ≡ k → length (filter p (range_with_len 0 n)) ≤ length (filter p (range_with_len 0 k))
length-filter_fewer p n zero k e =
    let same : n ≡ k = omega arith in omega (arith, ap (λ m. length (filter p (range_with_len 0 m))) same)
length-filter_fewer p n (suc m) k e =
    let next : n + m + 1 ≡ k = omega arith in
    let more = ap length (kept_more p (n + m)) ∙ length-append (filter p (range_with_len 0 (n + m))) (cond (p (n + m)) ((n + m) ∷ []) []) in
    omega (arith, length-filter_fewer p n m (n + m) refl, more, ap (λ m. length (filter p (range_with_len 0 m))) next)

length-filter-le : (p : ℕ → Bool) (n : ℕ) → length (filter p (range_with_len 0 n)) ≤ n
length-filter-le p n = omega (arith, length-filter p (range_with_len 0 n), count_by-le-length p (range_with_len 0 n), length-range_with_len 0 n)

module _ (ends : List Span) (u : ℕ) where
  pub leaving_yes : (n : ℕ) → (span_at ends n).tail ≡ u → leaving_by (n + 1) ends u ≡ leaving_by n ends u ++ n ∷ []
  leaving_yes n e = kept_more (λ e. eqb (span_at ends e).tail u) n ∙ ap (λ l. leaving_by n ends u ++ l) (cond-true _ _ _ (eq-eqb _ _ e))

  pub leaving_no : (n : ℕ) → ((span_at ends n).tail ≡ u → ⊥) → leaving_by (n + 1) ends u ≡ leaving_by n ends u
  leaving_no n e = kept_more (λ e. eqb (span_at ends e).tail u) n ∙ ap (λ l. leaving_by n ends u ++ l) (cond-false _ _ _ (ne_eqb _ _ e)) ∙ append-nil (leaving_by n ends u)

  pub leaving_longer : (n : ℕ) → (span_at ends n).tail ≡ u → length (leaving_by (n + 1) ends u) ≡ length (leaving_by n ends u) + 1
  leaving_longer n e = ap length (leaving_yes n e) ∙ length-append (leaving_by n ends u) (n ∷ [])

  -- a span that leaves the node has a place behind those before it
  pub leaving_fewer : (k n : ℕ) → (span_at ends k).tail ≡ u → k < n → length (leaving_by k ends u) < length (leaving_by n ends u)
  leaving_fewer k n e h =
      let fewer = length-filter_fewer (λ e. eqb (span_at ends e).tail u) (k + 1) (n - (k + 1)) n (omega arith) in
      omega (arith, leaving_longer k e, fewer)

  -- the row with one span more, written behind the others
  module _ (start k : ℕ) (old : List ℕ) where
    abbrev behind : ℕ
    behind = start + length (leaving_by k ends u)

    pub row_more : (place v : ℕ) (cur : List ℕ) → cur ≡ laid start (leaving_by k ends u) old → place ≡ behind → place < length old → v ≡ k → (span_at ends k).tail ≡ u
        → set cur place v ≡ laid start (leaving_by (k + 1) ends u) old
    row_more place v cur inv at h is e =
        let front = take start old ++ leaving_by k ends u in
        let front' = take start old ++ leaving_by (k + 1) ends u in
        let long : length front ≡ behind = length-append (take start old) (leaving_by k ends u) ∙ ap (λ m. m + length (leaving_by k ends u)) (length-take-le start old (omega arith)) in
        let joined : front ++ v ∷ [] ≡ front' = append_assoc (take start old) (leaving_by k ends u) (v ∷ []) ∙ ap (λ x. take start old ++ (leaving_by k ends u ++ x ∷ [])) is ∙ ap (λ l. take start old ++ l) (sym (leaving_yes k e)) in
        let next : behind + 1 ≡ start + length (leaving_by (k + 1) ends u) = omega (arith, leaving_longer k e) in
        (λ i. set (inv i) (at i) v)
        ∙ front_more front front' old behind v (omega arith) long joined
        ∙ ap (λ m. front' ++ drop m old) next

-- a row behind what stands before it
slice_range-laid : (start : ℕ) (row old : List ℕ) → start ≤ length old → slice_range (laid start row old) start (start + length row) ≡ row
slice_range-laid start row old h =
    let front = take start old in
    let tail = drop (start + length row) old in
    let long : start + length row - start ≡ length row = omega arith in
    ap (λ l. take (start + length row - start) (drop start l)) (append_assoc front row tail)
    ∙ ap (take (start + length row - start)) (drop_at front (row ++ tail) start (length-take-le start old h))
    ∙ ap (λ m. take m (row ++ tail)) long
    ∙ take_at row tail (length row) refl

-- leaves what stood before it
take-laid : (n start : ℕ) (row old : List ℕ) → n ≤ start → start ≤ length old → take n (laid start row old) ≡ take n old
take-laid n start row old h l =
    let front : n ≤ length (take start old) = rw length-take-le (omega arith) in
    ap (take n) (append_assoc (take start old) row (drop (start + length row) old))
    ∙ take-append-le n (take start old) (row ++ drop (start + length row) old) front
    ∙ take-take n start old h

slice_range-laid_below : (a b start : ℕ) (row old : List ℕ) → b ≤ start → start ≤ length old → slice_range (laid start row old) a b ≡ slice_range old a b
slice_range-laid_below a b start row old h l =
    between_is (laid start row old) a b ∙ ap (drop a) (take-laid b start row old h l) ∙ sym (between_is old a b)

-- the spans whose tail is below a node
abbrev pub lower : List Span → ℕ → ℕ → Bool
lower ends u e = ltb (span_at ends e).tail u

abbrev pub before : ℕ → List Span → ℕ → ℕ
before n ends u = length (filter (lower ends u) (range_with_len 0 n))

split : (ends : List Span) (u : ℕ) (xs : List ℕ) → length (filter (lower ends (u + 1)) xs) ≡ length (filter (lower ends u) xs) + length (filter (λ e. eqb (span_at ends e).tail u) xs)
split ends u [] = refl
split ends u (x ∷ xs) = let rest = split ends u xs in grind (arith, nat_tests)

-- there are as many below the next node as below a node and of it
pub before_more : (n : ℕ) (ends : List Span) (u : ℕ) → before n ends (u + 1) ≡ before n ends u + length (leaving_by n ends u)
before_more n ends u = split ends u (range_with_len 0 n)

pub before-le : (n : ℕ) (ends : List Span) (u : ℕ) → before n ends u ≤ n
before-le n ends u = length-filter-le (lower ends u) n

none : (ends : List Span) (xs : List ℕ) → filter (lower ends 0) xs ≡ []
none ends [] = refl
none ends (x ∷ xs) = let rest = none ends xs in grind (arith, nat_tests)

pub before_none : (n : ℕ) (ends : List Span) → before n ends 0 ≡ 0
before_none n ends = ap length (none ends (range_with_len 0 n))

agree : (p q : ℕ → Bool) (a n : ℕ) → ((e : ℕ) → e < a + n → p e ≡ q e) → filter p (range_with_len a n) ≡ filter q (range_with_len a n)
agree p q a zero h = refl
agree p q a (suc n) h =
    let rest = agree p q (a + 1) n (λ e l. h e (omega arith)) in
    λ k. cond (h a (omega arith) k) (a ∷ rest k) (rest k)

-- what stands behind the spans of a network is not read
pub leaving_by-take : (n : ℕ) (ends : List Span) (u : ℕ) → leaving_by n (take n ends) u ≡ leaving_by n ends u
leaving_by-take n ends u = agree _ _ 0 n (λ e h. ap (λ (s : Span). eqb s.tail u) (get_or-take n ends e no_span (omega arith)))

pub cut_row : (n : ℕ) (ends : List Span) (u : ℕ) → n ≤ length ends → leaving_by (length (take n ends)) (take n ends) u ≡ leaving_by n ends u
cut_row n ends u h = ap (λ m. leaving_by m (take n ends) u) (length-take-le n ends h) ∙ leaving_by-take n ends u

-- a row that begins behind the spans below its node ends behind those below the next node
pub row_end : (n : ℕ) (ends : List Span) (u end : ℕ) → n ≤ length ends → end ≡ before n ends u → end + length (leaving_by (length (take n ends)) (take n ends) u) ≡ before n ends (u + 1)
row_end n ends u end h e = (λ k. e k + length (cut_row n ends u h k)) ∙ sym (before_more n ends u)

-- one row more
pub rows_more : (m end n : ℕ) (ends : List Span) (order order' starts starts' : List ℕ) (end' : ℕ) → Rows m end n ends order starts → start_at starts m ≡ end → end ≤ length order → m + 1 < length starts
    → end' ≡ end + length (leaving_by n ends m) → order' ≡ laid end (leaving_by n ends m) order → starts' ≡ set starts (m + 1) end' → (start_at starts' (m + 1) ≡ end') × Rows (m + 1) end' n ends order' starts'
rows_more m end n ends order order' starts starts' end' rows at fits long is laid_is set_is =
    let other : (u : ℕ) → u ≤ m → start_at starts' u ≡ start_at starts u =
    λ u h. ap (λ l. start_at l u) set_is ∙ get_or-set_other starts (m + 1) u end' 0 (λ e. omega arith) in
    let last : start_at starts' (m + 1) ≡ end' = ap (λ l. start_at l (m + 1)) set_is ∙ get_or-set_same starts (m + 1) end' 0 long in (
      last,
      below_more (λ u. (start_at starts' u ≤ start_at starts' (u + 1)) × (start_at starts' (u + 1) ≤ end') × (slice_range order' (start_at starts' u) (start_at starts' (u + 1)) ≡ leaving_by n ends u)) m
          (λ u h.
          let r = rows u h in
          let a = other u (omega arith) in
          let b = other (u + 1) (omega arith) in (
            omega (arith, a, b, r.0),
            omega (arith, b, r.1),
            (λ i. slice_range (laid_is i) (a i) (b i)) ∙ slice_range-laid_below (start_at starts u) (start_at starts (u + 1)) end (leaving_by n ends m) order r.1 fits ∙ r.2,
          ))
          (let a = other m (omega arith) ∙ at in (
            omega (arith, a, last),
            omega (arith, last),
            (λ i. slice_range (laid_is i) (a i) ((last ∙ is) i)) ∙ slice_range-laid end (leaving_by n ends m) order fits,
          )),
    )

pub rows_all : (m end end' nodes n : ℕ) (ends : List Span) (order starts : List ℕ) → Rows m end n ends order starts → nodes ≤ m → end ≤ end' → Rows nodes end' n ends order starts
rows_all m end end' nodes n ends order starts rows h fits u l = let r = rows u (omega arith) in (r.0, omega (arith, r.1), r.2)
