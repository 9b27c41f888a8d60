-- As many records name a circuit as channels are held by the account.
use Rattle.std.specs.List.{range_with_len}
use Rattle.std.proofs.Common.{◌≡◌, ℕ, zero, suc, ◌+◌, ◌*◌, ◌<◌, ◌≤◌, Bool, cond, List, [], ◌∷◌, length, map, take, get_or, count_by, is_some, None, refl, sym, ap, ◌∙◌, subst, arith}
use Rattle.std.proofs.Math.Nat.{div-lt_iff_lt-mul, mod-lt}
use Rattle.std.proofs.lemmas.Nat.{div-add-mod'}
use Rattle.std.proofs.lemmas.List.{take_more}
use Rattle.std.proofs.lemmas.List.FromFn.{sum_by-map-range_with_len_more}
use Rattle.std.proofs.lemmas.List.Sums.{sum_by-append}
use Rattle.network.specs.declared.counts.Counts.{Counts}
use Rattle.network.specs.declared.step.Step.{Step}
use Rattle.network.specs.Steps.{Within}
use Rattle.network.specs.Tariffs.{span_entries}
use Rattle.records.specs.Chains.{Channel, channel_at}
use Rattle.records.specs.Held.{held}
use Rattle.account.specs.Accounts.{Account, is_held, channel_of, held_by}

abbrev bit : Bool → ℕ
bit b = cond b 1 0

within : (n : Counts) (i : ℕ) → i < span_entries n → Within n (channel_of n i)
within n i h = let some : 0 < n.channels = positive n.channels h in ((div-lt_iff_lt-mul some).1 h, mod-lt i some)
  where
    positive : (k : ℕ) → i < n.spans * k → 0 < k
    positive zero h = absurd (omega arith)
    positive (suc k) h = omega arith

module _ (n : Counts) (table : List Channel) (a : Account) (wide : span_entries n ≤ length table) (holds : (s : Step) → Within n s → is_some (channel_at n table s) ≡ is_held a s) where
  one : (i : ℕ) → i < span_entries n → is_some (get_or table i None) ≡ is_held a (channel_of n i)
  one i h = ap (λ k. is_some (get_or table k None)) (sym (div-add-mod' i n.channels)) ∙ holds (channel_of n i) (within n i h)

  upto : (m : ℕ) → m ≤ span_entries n → count_by is_some (take m table) ≡ count_by (is_held a) (map (channel_of n) (range_with_len 0 m))
  upto zero h = refl
  upto (suc m) h =
      let up : suc m ≡ m + 1 = omega arith in
      let here : m < span_entries n = omega arith in
      subst (λ k. count_by is_some (take k table) ≡ count_by (is_held a) (map (channel_of n) (range_with_len 0 k))) (sym up)
      (ap (count_by is_some) (take_more table m None (omega arith))
      ∙ sum_by-append (λ r. bit (is_some r)) (take m table) (get_or table m None ∷ [])
      ∙ both (upto m (omega arith)) (ap bit (one m here))
      ∙ sym (sum_by-map-range_with_len_more (λ s. bit (is_held a s)) (channel_of n) 0 m m (omega arith)))
    where
      both : {k l i j : ℕ} → k ≡ l → i ≡ j → k + (0 + i) ≡ l + j
      both e f = omega (arith, e, f)

  pub same_count : held n table ≡ held_by n a
  same_count = upto (span_entries n) (omega arith)
