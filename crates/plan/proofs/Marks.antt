-- One converter after the other is written into its entry.
use Rattle.std.proofs.Common.{◌≡◌, ℕ, zero, suc, ◌+◌, ◌<◌, ◌≤◌, min, cond, eqb, List, ◌∷◌, ◌++◌, map, length, drop, set, replicate, sym, refl, ap, ◌∙◌, ⊎_elim, add-one, arith}
use Rattle.std.specs.List.{range_with_len}
use Rattle.std.proofs.lemmas.List.FromFn.{length-map-range_with_len}
use Rattle.std.proofs.lemmas.List.{set-append_left, length-replicate}
use Rattle.std.proofs.lemmas.Slice.{drop-append-drop}
use Rattle.std.proofs.lemmas.Bool.{cond-true, cond-false, cond_both, eq-eqb, ne_eqb, cases_eq}
use Rattle.network.specs.Tables.{filled, tabled}
use Rattle.network.specs.Tariffs.{absent, present, converter_entries}
use Rattle.network.specs.declared.counts.Counts.{Counts}
use Rattle.plan.specs.declared.record.Converter.{Converter}
use Rattle.plan.specs.Telling.{place, listed}

-- f with w at p
abbrev pub marked : ℕ → ℕ → (ℕ → ℕ) → ℕ → ℕ
marked p w f e = cond (eqb p e) w (f e)

-- a mark below where the counting begins is not seen
map_other : (f : ℕ → ℕ) (p w a n : ℕ) → p < a → map (marked p w f) (range_with_len a n) ≡ map f (range_with_len a n)
map_other f p w a zero h = refl
map_other f p w a (suc n) h =
    λ k. cond-false (eqb p a) w (f a) (ne_eqb p a (λ e. omega arith)) k ∷ map_other f p w (a + 1) n (omega arith) k

set_counting : (f : ℕ → ℕ) (p w a n i : ℕ) → i < n → a + i ≡ p → set (map f (range_with_len a n)) i w ≡ map (marked p w f) (range_with_len a n)
set_counting f p w a zero i h e = absurd (omega arith)
set_counting f p w a (suc n) zero h e =
    λ k. sym (cond-true (eqb p a) w (f a) (eq-eqb p a (omega arith))) k ∷ sym (map_other f p w (a + 1) n (omega arith)) k
set_counting f p w a (suc n) (suc i) h e =
    λ k. sym (cond-false (eqb p a) w (f a) (ne_eqb p a (λ q. omega arith))) k ∷ set_counting f p w (a + 1) n i (omega arith) (omega arith) k

-- a mark among the entries of a table
pub set-tabled : (f : ℕ → ℕ) (p w n : ℕ) (old : List ℕ) → p < n → set (tabled n f old) p w ≡ tabled n (marked p w f) old
set-tabled f p w n old h =
    let l : p < length (map f (range_with_len 0 n)) = rw length-map-range_with_len h in
    set-append_left (map f (range_with_len 0 n)) (drop n old) p w l ∙ ap (λ xs. xs ++ drop n old) (set_counting f p w 0 n p h (omega arith))

-- one more converter
pub marks_more : (n : Counts) (f : ℕ → Converter) (i p w : ℕ) (cur old : List ℕ) → cur ≡ tabled (converter_entries n) (listed n f i) old → p ≡ place n (f i) → p < converter_entries n → w ≡ (f i).tariff
    → set cur p w ≡ tabled (converter_entries n) (listed n f (i + 1)) old
marks_more n f i p w cur old inv e h t =
    ap (λ xs. set xs p w) inv
    ∙ set-tabled (listed n f i) p w (converter_entries n) old h
    ∙ (λ k. tabled (converter_entries n) (marked (e k) (t k) (listed n f i)) old)
    ∙ ap (λ r. tabled (converter_entries n) (listed n f r) old) (sym (add-one i))

same_everywhere : (v a n : ℕ) → replicate n v ≡ map (λ _. v) (range_with_len a n)
same_everywhere v a zero = refl
same_everywhere v a (suc n) = ap (λ xs. v ∷ xs) (same_everywhere v (a + 1) n)

drop-filled : (n v : ℕ) (old : List ℕ) → drop n (filled n v old) ≡ drop n old
drop-filled n v old = drop-append-drop (min n (length old)) old (replicate (min n (length old)) v) n (omega arith) (length-replicate (min n (length old)) v)

-- no converter yet
pub marks_none : (n : ℕ) (cur old : List ℕ) → cur ≡ filled n absent old → n ≤ length old → cur ≡ tabled n (λ _. absent) cur
marks_none n cur old e h =
    let m : min n (length old) ≡ n = omega arith in
    e
    ∙ ap (λ j. replicate j absent ++ drop j old) m
    ∙ (λ k. same_everywhere absent 0 n k ++ sym (ap (drop n) e ∙ drop-filled n absent old) k)

-- what stood beyond the entries is what stood there at first
pub marks_all : (n : ℕ) (f : ℕ → ℕ) (cur old : List ℕ) → cur ≡ filled n absent old → tabled n f cur ≡ tabled n f old
marks_all n f cur old e = ap (λ xs. map f (range_with_len 0 n) ++ xs) (ap (drop n) e ∙ drop-filled n absent old)

abbrev seen : ℕ → ℕ
seen x = cond (eqb x absent) 0 1

one : (x : ℕ) → seen x ≤ 1
one x = cond_both (eqb x absent) 0 1 (λ y. y ≤ 1) (λ _. omega arith) (λ _. omega arith)

-- a mark adds at most one entry that is present
present_marked : (f : ℕ → ℕ) (p w a n : ℕ) → present (map (marked p w f) (range_with_len a n)) ≤ 1 + present (map f (range_with_len a n))
present_marked f p w a zero = omega arith
present_marked f p w a (suc n) =
    ⊎_elim
    (λ e. let rest = ap present (map_other f p w (a + 1) n (omega arith)) in omega (arith, rest, one (marked p w f a), one (f a)))
    (λ ne. let head : seen (marked p w f a) ≡ seen (f a) = ap seen (cond-false (eqb p a) w (f a) (ne_eqb p a ne)) in omega (arith, head, present_marked f p w (a + 1) n))
    (cases_eq p a)

none_present : (a m : ℕ) → present (map (λ _. absent) (range_with_len a m)) ≤ 0
none_present a zero = omega arith
none_present a (suc m) = omega (arith, none_present (a + 1) m)

-- there are no more entries that are present than converters
pub present_listed : (n : Counts) (f : ℕ → Converter) (r a m : ℕ) → present (map (listed n f r) (range_with_len a m)) ≤ r
present_listed n f zero a m = none_present a m
present_listed n f (suc r) a m =
    let more = present_marked (listed n f r) (place n (f r)) (f r).tariff a m in
    omega (arith, more, present_listed n f r a m)
