-- A row that is sorted has the numbers that it had.
use Rattle.std.proofs.Common.{◌≡◌, ℕ, cond, List, ap, ◌∙◌}
use Rattle.std.specs.List.{count_by}
use Rattle.std.specs.List.Sorted.{IsPermutation, IsNonDecreasingBy}
use Rattle.std.proofs.lemmas.List.Sorted.{sum_by-IsPermutation}
use Rattle.network.specs.Rates.{ByRate}

pub ByRate-sorted : (rate : ℕ → ℕ) (numbers xs ys : List ℕ) → xs ≡ numbers → IsPermutation xs ys → IsNonDecreasingBy rate ys → ByRate rate numbers ys
ByRate-sorted rate numbers xs ys e moved up = record {
  same = λ p. sum_by-IsPermutation (λ x. cond (p x) 1 0) xs ys moved ∙ ap (count_by p) e;
  rising = up;
}
