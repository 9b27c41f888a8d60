-- 29 is answered to an offer or a trial alone, where no refusal is due and no semilightpath leads there.
use Rattle.std.proofs.Common.{◌≡◌, ℕ, Bool, true, false, cond, not, ◌&&◌, List, [], ◌∷◌, ◌++◌, length, Some, None, Ok, Err, Option, Result, refl, sym, ap, ◌∙◌}
use Rattle.std.proofs.lemmas.Bool.{and_parts, false≢true}
use Rattle.std.specs.List.{list_all}
use Rattle.fault.specs.Judging.{Judgement, first, unless}
use Rattle.fault.specs.declared.book.BookFault.{BookFault}
use Rattle.network.specs.declared.counts.Counts.{Counts}
use Rattle.semilightpath.specs.Scenes.{Scene}
use Rattle.semilightpath.specs.Cheapest.{IsLeastCost, HasNone}
use Rattle.search.specs.Answers.{Sought}
use Rattle.book.specs.declared.offer.Offer.{Offer}
use Rattle.book.specs.Answering.{IsOffer, spent}
use Rattle.book.specs.Refusing.{of_circuit, of_spending, of_darkening, of_buffer, of_ordered, of_room, of_trial, of_span, of_path, look_refusal, shut_refusal}
use Rattle.account.specs.Events.{Event, offers, confirms, withdraws, darkens, shuts, tries, slips, looks, reckons}
use Rattle.account.specs.Accounts.{Account, noted, stands_by, path_by, scene_by}
use Rattle.account.specs.Due.{offer_due, spend_due, darken_due, trial_due, slip_due, reckon_due}
use Rattle.account.specs.Law.{IsRight, is_no_path, tells_29, returns_29, is_29, NoneLeads}

abbrev fault_29 : Option BookFault → Bool
fault_29 None = false
fault_29 (Some f) = is_no_path f

-- no fault of a list of judgements is 29
abbrev Others : List (Judgement BookFault) → Type 0
Others xs = list_all (λ j. not (is_no_path j.fault)) xs ≡ true

not_so : (b : Bool) → not b ≡ true → b ≡ false
not_so true e = cc
not_so false e = refl

never : (xs : List (Judgement BookFault)) → Others xs → fault_29 (first xs) ≡ false
never [] others = refl
never (j ∷ xs) others = go j.sound (never xs (and_parts _ _ others).1)
  where
    go : (b : Bool) → fault_29 (first xs) ≡ false → fault_29 (cond b (first xs) (Some j.fault)) ≡ false
    go true rest = rest
    go false rest = not_so (is_no_path j.fault) (and_parts _ _ others).0

unless_29 : {A : Type 0} (z : Option BookFault) (v : A) → tells_29 (unless z v) ≡ fault_29 z
unless_29 None v = refl
unless_29 (Some f) v = refl

spent_29 : {A : Type 0} (z : Option BookFault) (o : Offer) (v : A) → returns_29 (spent z o v) ≡ fault_29 z
spent_29 None o v = refl
spent_29 (Some f) o v = refl

sought_29 : {A : Type 0} (g : Scene) (s t : ℕ) (P : A → Type 0) (z : Option BookFault) (r : Result A BookFault) → fault_29 z ≡ false → Sought g s t P z r → tells_29 r ≡ true → (z ≡ None) × HasNone g s t
sought_29 g s t P None (Ok v) other h e = absurd (false≢true e)
sought_29 g s t P None (Err f) other h e = (refl, h.1)
sought_29 g s t P (Some f) r other h e = absurd (false≢true (sym other ∙ sym (ap tells_29 h) ∙ e))

module _ (n : Counts) (mark : ℕ) (a : Account) (l : ℕ → Bool) where
  told : {A B : Type 0} (z : Option BookFault) (v : A) (r : Result A BookFault) → fault_29 z ≡ false → r ≡ unless z v → tells_29 r ≡ true → B
  told z v r other h e = absurd (false≢true (sym other ∙ sym (unless_29 z v) ∙ sym (ap tells_29 h) ∙ e))

  returned : {A B : Type 0} (z : Option BookFault) (o : Offer) (v : A) (r : Result A (BookFault × Offer)) → fault_29 z ≡ false → r ≡ spent z o v → returns_29 r ≡ true → B
  returned z o v r other h e = absurd (false≢true (sym other ∙ sym (spent_29 z o v) ∙ sym (ap returns_29 h) ∙ e))

  pub call_none : (e : Event) → IsRight n mark a l e → is_29 e ≡ true → NoneLeads n a e
  call_none (offers q c p r) right e = sought_29 (scene_by q.net a) q.from q.to (IsOffer q.kind (scene_by q.net a) mark c q.from q.to p) (offer_due n a q c) r (never (of_ordered n q.net.counts (not (stands_by a c)) c q.from q.to ++ of_room q.net.counts q.room ∷ []) refl) right e
  call_none (tries q i r) right e = sought_29 (scene_by q.net (noted i a)) q.from q.to (IsLeastCost q.kind (scene_by q.net (noted i a)) q.from q.to) (trial_due n q i) r (never (of_trial n q.net.counts q.from q.to i ++ of_room q.net.counts q.room ∷ []) refl) right e
  call_none (confirms o r) right e = returned (spend_due mark a l o) o _ r (never (of_spending mark (stands_by a o.circuit && not (l o.circuit)) o) refl) right e
  call_none (withdraws o r) right e = returned (spend_due mark a l o) o _ r (never (of_spending mark (stands_by a o.circuit && not (l o.circuit)) o) refl) right e
  call_none (darkens c r) right e = told (darken_due l c) _ r (never (of_darkening (l c) c) refl) right e
  call_none (shuts i r) right e = told (shut_refusal n i) tt r (never (of_span n i ∷ []) refl) right e
  call_none (slips w c b r b') right e = told (slip_due n a w c (length b)) _ r (never (of_path n w.counts (stands_by a c) c ++ of_buffer (path_by a c) (length b) ∷ []) refl) right.0 e
  call_none (looks c r) right e = told (look_refusal c) _ r (never (of_circuit c ∷ []) refl) right e
  call_none (reckons w k c r) right e = told (reckon_due n a w c) _ r (never (of_path n w.counts (stands_by a c) c) refl) right e
