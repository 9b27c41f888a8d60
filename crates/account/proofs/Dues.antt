-- Which refusals are due, by the tables and by the account, is the same.
use Rattle.std.proofs.Common.{◌≡◌, ℕ, ◌<◌, Bool, true, false, not, List, [], ◌∷◌, ◌++◌, Option, length, nat_lt, nat_le, ◌+◌, sym, ap, ◌∙◌, ◌⊎◌, inl, inr}
use Rattle.std.proofs.lemmas.Bool.{cases_Bool, ltb-true}
use Rattle.fault.specs.Judging.{Judgement, judge, first}
use Rattle.fault.specs.declared.book.BookFault.{BookFault}
use Rattle.fault.specs.declared.book.BookFault.TheVariants as fault
use Rattle.network.specs.declared.counts.Counts.{Counts}
use Rattle.network.specs.Net.{Net}
use Rattle.records.specs.Chains.{circuit_count}
use Rattle.book.specs.Refusing.{of_network, of_circuit, of_state, of_ends, of_room, is_free, is_standing, offer_refusal, slip_refusal, reckon_refusal}
use Rattle.book.specs.State.{Tables}
use Rattle.book.specs.Changes.{circuit_in, path_in, standing_in}
use Rattle.account.specs.Events.{Asked}
use Rattle.account.specs.Accounts.{Account, stands_by, standing_by}
use Rattle.account.specs.Due.{offer_due, slip_due, reckon_due}
use Rattle.account.proofs.Standing.{same_path, same_stands, same_free}

-- whether a circuit is as it must be is asked only where there is such a circuit
same_first : (m n : Counts) (c : ℕ) (b d : Bool) (rest : List (Judgement BookFault)) → (c < circuit_count → b ≡ d) → first (of_network m n ∷ of_circuit c ∷ of_state b ∷ rest) ≡ first (of_network m n ∷ of_circuit c ∷ of_state d ∷ rest)
same_first m n c b d rest same = go (cases_Bool (nat_lt c circuit_count))
  where
    whole : Bool → Bool → Option BookFault
    whole k e = first (of_network m n ∷ judge k fault.NoCircuit ∷ of_state e ∷ rest)

    go : (nat_lt c circuit_count ≡ true) ⊎ (nat_lt c circuit_count ≡ false) → whole (nat_lt c circuit_count) b ≡ whole (nat_lt c circuit_count) d
    go (inl q) = ap (whole (nat_lt c circuit_count)) (same (ltb-true c circuit_count q))
    go (inr q) = ap (λ k. whole k b) q ∙ sym (ap (λ k. whole k d) q)

module _ (n : Counts) (x : Tables) (a : Account) (c : ℕ) (e : standing_in n x c ≡ standing_by a c) where
  pub same_offer_due : (q : Asked) → offer_refusal n q.net.counts x c q.from q.to q.room ≡ offer_due n a q c
  same_offer_due q =
      same_first n q.net.counts c (is_free (circuit_in x c)) (not (stands_by a c)) (of_ends q.net.counts q.from q.to ++ of_room q.net.counts q.room ∷ []) (λ h. same_free n x a c h e)

  pub same_reckon_due : (w : Net) → reckon_refusal n w.counts x c ≡ reckon_due n a w c
  same_reckon_due w = same_first n w.counts c (is_standing (circuit_in x c)) (stands_by a c) [] (λ h. same_stands n x a c h e)

  pub same_slip_due : (w : Net) (room : ℕ) → slip_refusal n w.counts x c room ≡ slip_due n a w c room
  same_slip_due w room =
      same_first n w.counts c (is_standing (circuit_in x c)) (stands_by a c) (judge (nat_le (length (path_in n x c) + 1) room) fault.SlipBuffer ∷ []) (λ h. same_stands n x a c h e)
      ∙ ap (λ p. first (of_network n w.counts ∷ of_circuit c ∷ of_state (stands_by a c) ∷ judge (nat_le (length p + 1) room) fault.SlipBuffer ∷ [])) (same_path n x a c e)
