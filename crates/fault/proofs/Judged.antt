-- Laws of the first fault.
use Rattle.std.proofs.Common.{◌≡◌, ℕ, zero, suc, ◌+◌, ◌<◌, Bool, true, false, cond, List, [], ◌∷◌, ◌++◌, map, Some, None, Ok, Err, Option, Result, sym, refl, ap, ◌∙◌, arith}
use Rattle.std.proofs.lemmas.List.FromFn.{map-range_with_len_more}
use Rattle.std.proofs.lemmas.Bool.{cond-true, cond-false}
use Rattle.std.specs.List.{range_with_len}
use Rattle.std.specs.Option.{option_map, option_or}
use Rattle.fault.specs.Judging.{Judgement, judge, first, each, inside, unless}

pub first-append : {F : Type 0} (xs ys : List (Judgement F)) → first (xs ++ ys) ≡ option_or (first xs) (first ys)
first-append [] ys = refl
first-append (x ∷ xs) ys =
    elim x.sound as (λ b. cond b (first (xs ++ ys)) (Some x.fault) ≡ option_or (cond b (first xs) (Some x.fault)) (first ys)) [ true ↦ first-append xs ys | false ↦ refl ]

pub first-inside : {F G : Type 0} (f : F → G) (xs : List (Judgement F)) → first (inside f xs) ≡ option_map f (first xs)
first-inside f [] = refl
first-inside f (x ∷ xs) =
    elim x.sound as (λ b. cond b (first (inside f xs)) (Some (f x.fault)) ≡ option_map f (cond b (first xs) (Some x.fault))) [ true ↦ first-inside f xs | false ↦ refl ]

-- a judgement that is sound leaves what comes after it
pub cond_none : {F : Type 0} (b : Bool) (f : F) (r : Option F) → cond b r (Some f) ≡ None → (b ≡ true) × (r ≡ None)
cond_none true f r e = (refl, e)
cond_none false f r e = cc

-- judgements counted up from a: one more is sound
more_from : {F : Type 0} (f : ℕ → Judgement F) (a n : ℕ) → first (map f (range_with_len a n)) ≡ None → (f (a + n)).sound ≡ true → first (map f (range_with_len a (n + 1))) ≡ None
more_from f a n e s =
    ap first (map-range_with_len_more f a n (a + n) refl) ∙ first-append (map f (range_with_len a n)) (f (a + n) ∷ []) ∙ ap (λ r. option_or r (first (f (a + n) ∷ []))) e ∙ cond-true _ _ _ s

-- and the first that is not sound
at_from : {F : Type 0} (f : ℕ → Judgement F) (a i n : ℕ) → i < n → first (map f (range_with_len a i)) ≡ None → (f (a + i)).sound ≡ false → first (map f (range_with_len a n)) ≡ Some (f (a + i)).fault
at_from f a i zero h e s = absurd (omega arith)
at_from f a zero (suc n) h e s =
    let z : a + 0 ≡ a = omega arith in
    cond-false _ _ _ (ap (λ j. (f j).sound) (sym z) ∙ s) ∙ ap (λ j. Some (f j).fault) (sym z)
at_from f a (suc i) (suc n) h e s =
    let p = cond_none (f a).sound (f a).fault (first (map f (range_with_len (a + 1) i))) e in
    let z : a + 1 + i ≡ a + suc i = omega arith in
    cond-true _ _ _ p.0 ∙ at_from f (a + 1) i n (omega arith) p.1 (ap (λ j. (f j).sound) z ∙ s) ∙ ap (λ j. Some (f j).fault) z

pub each_more : {F : Type 0} (f : ℕ → Judgement F) (i : ℕ) → first (each i f) ≡ None → (f i).sound ≡ true → first (each (i + 1) f) ≡ None
each_more f i e s = let z : 0 + i ≡ i = omega arith in more_from f 0 i e (ap (λ j. (f j).sound) z ∙ s)

pub each_at : {F : Type 0} (f : ℕ → Judgement F) (i n : ℕ) → i < n → first (each i f) ≡ None → (f i).sound ≡ false → first (each n f) ≡ Some (f i).fault
each_at f i n h e s = let z : 0 + i ≡ i = omega arith in at_from f 0 i n h e (ap (λ j. (f j).sound) z ∙ s) ∙ ap (λ j. Some (f j).fault) z

pub append_some : {F : Type 0} (xs ys : List (Judgement F)) (f : F) → first xs ≡ Some f → first (xs ++ ys) ≡ Some f
append_some xs ys f e = first-append xs ys ∙ ap (λ r. option_or r (first ys)) e

pub append_none : {F : Type 0} (xs ys : List (Judgement F)) → first xs ≡ None → first (xs ++ ys) ≡ first ys
append_none xs ys e = first-append xs ys ∙ ap (λ r. option_or r (first ys)) e

pub inside_some : {F G : Type 0} (g : F → G) (xs : List (Judgement F)) (f : F) → first xs ≡ Some f → first (inside g xs) ≡ Some (g f)
inside_some g xs f e = first-inside g xs ∙ ap (option_map g) e

pub inside_none : {F G : Type 0} (g : F → G) (xs : List (Judgement F)) → first xs ≡ None → first (inside g xs) ≡ None
inside_none g xs e = first-inside g xs ∙ ap (option_map g) e

-- each judgement is sound where all are
sound_from : {F : Type 0} (f : ℕ → Judgement F) (a n i : ℕ) → first (map f (range_with_len a n)) ≡ None → i < n → (f (a + i)).sound ≡ true
sound_from f a zero i e h = absurd (omega arith)
sound_from f a (suc n) zero e h = let z : a + 0 ≡ a = omega arith in ap (λ j. (f j).sound) z ∙ (cond_none (f a).sound (f a).fault (first (map f (range_with_len (a + 1) n))) e).0
sound_from f a (suc n) (suc i) e h =
    let z : a + 1 + i ≡ a + suc i = omega arith in
    ap (λ j. (f j).sound) (sym z) ∙ sound_from f (a + 1) n i (cond_none (f a).sound (f a).fault (first (map f (range_with_len (a + 1) n))) e).1 (omega arith)

pub each_sound : {F : Type 0} (f : ℕ → Judgement F) (n i : ℕ) → first (each n f) ≡ None → i < n → (f i).sound ≡ true
each_sound f n i e h = let z : 0 + i ≡ i = omega arith in ap (λ j. (f j).sound) (sym z) ∙ sound_from f 0 n i e h

-- what an answer tells of the first fault
pub unless_ok : {F : Type 0} (r : Option F) (x : Unit {0}) → ◌≡◌ {A = Result (Unit {0}) F} (Ok x) (unless r tt) → r ≡ None
unless_ok None x e = refl
unless_ok (Some f) x e = cc

pub unless_err : {F : Type 0} (r : Option F) (f : F) → ◌≡◌ {A = Result (Unit {0}) F} (Err f) (unless r tt) → r ≡ Some f
unless_err None f e = cc
unless_err (Some g) f e = let p : f ≡ g = cc in ap (λ x. Some x) (sym p)

-- a last judgement that is sound changes nothing
pub last_sound : {F : Type 0} (xs : List (Judgement F)) (b : Bool) (f : F) → b ≡ true → first (xs ++ judge b f ∷ []) ≡ first xs
last_sound [] b f e = cond-true b None (Some f) e
last_sound (x ∷ xs) b f e = ap (λ r. cond x.sound r (Some x.fault)) (last_sound xs b f e)
