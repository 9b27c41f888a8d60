-- Different arrivals of a network are at most as many as it has arrivals.
use Rattle.std.proofs.Common.{◌≡◌, ℕ, ◌<◌, ◌≤◌, Bool, true, false, List, [], ◌∷◌, length, map, ◌||◌, ◌==◌, refl, sym, ap, ◌∙◌, subst, arith}
use Rattle.std.proofs.lemmas.Bool.{true≢false}
use Rattle.std.specs.List.{AllByRecursion, IsDistinct, list_any}
use Rattle.std.proofs.lemmas.List.{length-map}
use Rattle.std.proofs.lemmas.Bool.Decides.{nat_tests}
use Rattle.std.proofs.lemmas.Map.Keys.{IsDistinct-head, IsDistinct-tail, IsDistinct-cons}
use Rattle.std.proofs.lemmas.Map.Steps.{length-le_from_distinct_below}
use Rattle.std.proofs.lemmas.Nat.{mul-add-lt}
use Rattle.network.specs.Tariffs.{arrival_entries, arrival_entry}
use Rattle.network.specs.declared.counts.Counts.{Counts}
use Rattle.search.specs.declared.arrival.Arrival.{Arrival}
use Rattle.search.specs.Labels.{IsInside}
use Rattle.search.specs.Invariants.{same}
use Rattle.search.proofs.Routes.{same_self}
use Rattle.search.proofs.Rows.{entry_apart}

module _ (n : Counts) where
  abbrev code : Arrival → ℕ
  code x = arrival_entry n x.node x.channel

  code_apart : (x y : Arrival) → IsInside n x → IsInside n y → same x y ≡ false → (arrival_entry n x.node x.channel == arrival_entry n y.node y.channel) ≡ false
  code_apart x y hx hy e =
      let ne = entry_apart n x y hx hy (λ q. true≢false (sym (same_self x) ∙ ap (same x) q ∙ e)) in
      grind (arith, nat_tests)

  codes_apart : (x : Arrival) (xs : List Arrival) → IsInside n x → AllByRecursion (IsInside n) xs → AllByRecursion (λ y. same x y ≡ false) xs → AllByRecursion (λ q. (code x == q) ≡ false) (map code xs)
  codes_apart x [] hx h d = tt
  codes_apart x (y ∷ xs) hx h d = (code_apart x y hx h.0 d.0, codes_apart x xs hx h.1 d.1)

  codes_distinct : (xs : List Arrival) → AllByRecursion (IsInside n) xs → IsDistinct same xs → IsDistinct (λ a b. a == b) (map code xs)
  unfolding IsDistinct
  codes_distinct [] h d = tt
  codes_distinct (x ∷ xs) h d = IsDistinct-cons (λ a b. a == b) (code x) (map code xs) (codes_apart x xs h.0 h.1 (IsDistinct-head same x xs d)) (codes_distinct xs h.1 (IsDistinct-tail same x xs d))

  codes_below : (xs : List Arrival) → AllByRecursion (IsInside n) xs → (q : ℕ) → list_any (λ c. q == c) (map code xs) ≡ true → q < arrival_entries n
  codes_below [] h q e = absurd (true≢false (sym e))
  codes_below (x ∷ xs) h q e = go (q == code x) refl e (codes_below xs h.1 q)
    where
      go : (b : Bool) → (q == code x) ≡ b → (b || list_any (λ c. q == c) (map code xs)) ≡ true → (list_any (λ c. q == c) (map code xs) ≡ true → q < arrival_entries n) → q < arrival_entries n
      go true t k rest = let in_row = mul-add-lt x.node n.channels x.channel n.nodes h.0.0 h.0.1 in grind (arith, nat_tests)
      go false t k rest = rest k

  pub few_arrivals : (xs : List Arrival) → AllByRecursion (IsInside n) xs → IsDistinct same xs → length xs ≤ arrival_entries n
  few_arrivals xs h d =
      let le : length (map code xs) ≤ arrival_entries n = length-le_from_distinct_below (map code xs) (arrival_entries n) (codes_distinct xs h d) (codes_below xs h) in
      subst (λ (m : ℕ). m ≤ arrival_entries n) (length-map xs code) le
