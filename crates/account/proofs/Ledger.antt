-- The steps that are told, the channels that are told, and those that are held.
use Rattle.std.proofs.Common.{◌≡◌, ℕ, ◌+◌, true, List, ◌∷◌, Some, None, Ok, Err, Option, Result, length, is_some, sum_by, refl, sym, ap, ◌∙◌, subst, arith}
use Rattle.std.proofs.lemmas.Bool.{false≢true}
use Rattle.std.proofs.lemmas.List.Sums.{sum_by-cons}
use Rattle.fault.specs.Judging.{unless}
use Rattle.fault.specs.declared.book.BookFault.{BookFault}
use Rattle.network.specs.declared.counts.Counts.{Counts}
use Rattle.network.specs.declared.step.Step.{Step}
use Rattle.network.specs.Net.{Net}
use Rattle.network.specs.Steps.{Within}
use Rattle.cost.specs.Laws.{Ops}
use Rattle.semilightpath.specs.Paths.{begin}
use Rattle.semilightpath.specs.Cheapest.{IsCheapest}
use Rattle.records.specs.Chains.{Channel, channel_at, holder}
use Rattle.records.specs.Held.{held}
use Rattle.records.specs.Sound.{names}
use Rattle.records.proofs.Held.{held_taken, held_given}
use Rattle.book.specs.declared.offer.Offer.{Offer}
use Rattle.book.specs.declared.offer.Offered.{Offered}
use Rattle.book.specs.State.{Tables}
use Rattle.book.specs.Changes.{frees, lights, shuts, takes, changed, path_in, Makes}
use Rattle.book.specs.Refusing.{offer_refusal, spend_refusal, darken_refusal, shut_refusal}
use Rattle.book.specs.Answering.{scene_in, OfferAnswers, spent, unrefused}
use Rattle.book.specs.Calls.{Offers}
use Rattle.book.proofs.Offered.{usable_on, usable_free}
use Rattle.book.proofs.Ordered.{offer_in_order}
use Rattle.book.proofs.Sounds.{Good}
use Rattle.account.specs.Events.{Asked, Event, offers, confirms, withdraws, darkens, shuts, tries, slips, looks, reckons}
use Rattle.account.specs.Law.{Ensured, steps_told, channels_told}
use Rattle.account.proofs.Made.{accepted_offer}

-- a record that names a circuit is that of a held channel
some_named : (c : ℕ) (r : Channel) → names c (holder r) ≡ true → is_some r ≡ true
some_named c None e = absurd (false≢true e)
some_named c (Some h) e = refl

abbrev spent_for : ℕ → Result ℕ (BookFault × Offer)
spent_for k = Ok k

told_spent : (k l : ℕ) → spent_for k ≡ spent_for l → k ≡ l
told_spent k l e = cc

abbrev answer_of : ℕ → Result ℕ BookFault
answer_of k = Ok k

told_else : (k l : ℕ) → answer_of k ≡ answer_of l → k ≡ l
told_else k l e = cc

no_more : {k l : ℕ} → k ≡ l → 0 + k ≡ 0 + l
no_more e = ap (λ i. 0 + i) e

more : (k l m : ℕ) → k + l ≡ m → k + l ≡ 0 + m
more k l m e = omega (arith, e)

less : (k l m : ℕ) → k ≡ l + m → 0 + k ≡ l + m
less k l m e = omega (arith, e)

-- what one call tells, and what it makes of the channels that are held
abbrev Adds : Counts → Tables → Event → Tables → Type 0
Adds n x e y = steps_told e + held n x.channels ≡ channels_told e + held n y.channels

module _ (n : Counts) (mark : ℕ) (x y : Tables) (old : Good n x) where
  found_adds : {V : Type 0} (o : Ops V) (w : Net) (c s t : ℕ) (p : List Step) (v : V) → n ≡ w.counts → IsCheapest o (scene_in w x) s t p v → y ≡ changed n (takes c s t p) x → length p + held n x.channels ≡ held n y.channels
  found_adds o w c s t p v same best e =
      let usable = usable_on (scene_in w x) (begin s) p best.path.1 in
      sym (ap (λ (z : Tables). held n z.channels) e
      ∙ held_taken n c p x.channels old.wide (λ u on_p. subst (λ k. Within k u) (sym same) (usable u on_p).0) best.once (λ u on_p. ap (λ k. channel_at k x.channels u) same ∙ usable_free w x u (usable u on_p)))

  offer_adds : (q : Asked) (c : ℕ) (p : List Step) (r : Result (Offered ℕ) BookFault) → Offers q.kind q.net n mark x c q.from q.to q.room r y → Adds n x (offers q c p r) y
  offer_adds q c p (Err f) call = no_more (ap (λ (z : Tables). held n z.channels) (sym call.change.tables))
  offer_adds q c p (Ok k) call =
      let is = accepted_offer q.kind (scene_in q.net x) mark c q.from q.to (path_in n y c) (offer_refusal n q.net.counts x c q.from q.to q.room) k call.answer in
      more _ _ _ (ap (λ i. i + held n x.channels) is.steps ∙ found_adds q.kind q.net c q.from q.to (path_in n y c) k.cost (not_due (offer_refusal n q.net.counts x c q.from q.to q.room) refl call.answer) is.cheapest call.change.tables)
    where
      not_due : (z : Option BookFault) → offer_refusal n q.net.counts x c q.from q.to q.room ≡ z → OfferAnswers q.kind (scene_in q.net x) mark c q.from q.to (path_in n y c) z (Ok k) → n ≡ q.net.counts
      not_due None e h = (offer_in_order n q.net.counts x c q.from q.to q.room e).counts
      not_due (Some f) e h = cc

  freed_adds : (c : ℕ) → y ≡ changed n (frees c) x → held n x.channels ≡ length (path_in n x c) + held n y.channels
  freed_adds c e =
      sym (ap (λ (z : Tables). length (path_in n x c) + held n z.channels) e
      ∙ held_given n (path_in n x c) x.channels old.wide (old.sound.within c) (old.sound.apart c) (λ u o. some_named c (channel_at n x.channels u) (old.sound.named c u (old.sound.within c u o) ∙ o)))

  same_adds : y ≡ x → held n x.channels ≡ held n y.channels
  same_adds e = ap (λ (z : Tables). held n z.channels) (sym e)

  spent_adds : (o : Offer) (z : Option BookFault) (r : Result ℕ (BookFault × Offer)) → r ≡ spent z o (length (path_in n x o.circuit)) → Makes n (unrefused z (frees o.circuit)) x y → Adds n x (withdraws o r) y
  spent_adds o None (Ok k) e made = less _ _ _ (freed_adds o.circuit made.tables ∙ ap (λ i. i + held n y.channels) (sym (told_spent k (length (path_in n x o.circuit)) e)))
  spent_adds o None (Err i) e made = cc
  spent_adds o (Some f) (Ok k) e made = cc
  spent_adds o (Some f) (Err i) e made = no_more (same_adds made.tables)

  darkened_adds : (c : ℕ) (z : Option BookFault) (r : Result ℕ BookFault) → r ≡ unless z (length (path_in n x c)) → Makes n (unrefused z (frees c)) x y → Adds n x (darkens c r) y
  darkened_adds c None (Ok k) e made = less _ _ _ (freed_adds c made.tables ∙ ap (λ i. i + held n y.channels) (sym (told_else k (length (path_in n x c)) e)))
  darkened_adds c None (Err i) e made = cc
  darkened_adds c (Some f) (Ok k) e made = cc
  darkened_adds c (Some f) (Err i) e made = no_more (same_adds made.tables)

  lit_adds : (c : ℕ) (z : Option BookFault) → Makes n (unrefused z (lights c)) x y → held n x.channels ≡ held n y.channels
  lit_adds c None made = ap (λ (z : Tables). held n z.channels) (sym made.tables)
  lit_adds c (Some f) made = same_adds made.tables

  shut_adds : (e : ℕ) (z : Option BookFault) → Makes n (unrefused z (shuts e)) x y → held n x.channels ≡ held n y.channels
  shut_adds e None made = ap (λ (z : Tables). held n z.channels) (sym made.tables)
  shut_adds e (Some f) made = same_adds made.tables

  call_adds : (e : Event) → Ensured n mark x e y → Adds n x e y
  call_adds (offers q c p r) call = offer_adds q c p r call.1
  call_adds (confirms o r) call = no_more (lit_adds o.circuit (spend_refusal mark x o) call.change)
  call_adds (withdraws o r) call = spent_adds o (spend_refusal mark x o) r call.answer call.change
  call_adds (darkens c r) call = darkened_adds c (darken_refusal x c) r call.answer call.change
  call_adds (shuts e r) call = no_more (shut_adds e (shut_refusal n e) call.change)
  call_adds (tries q e r) call = no_more (same_adds call.0)
  call_adds (slips w c b r b') call = no_more (same_adds call.0)
  call_adds (looks c r) call = no_more (same_adds call.0)
  call_adds (reckons w k c r) call = no_more (same_adds call.0)

  pub call_ledger : (e : Event) (h : List Event) → Ensured n mark x e y → sum_by steps_told h ≡ sum_by channels_told h + held n x.channels → sum_by steps_told (e ∷ h) ≡ sum_by channels_told (e ∷ h) + held n y.channels
  call_ledger e h call before =
      let adds = call_adds e call in
      let steps = sum_by-cons steps_told e h in
      let channels = sum_by-cons channels_told e h in
      omega (arith, adds, before, steps, channels)
