-- What a call's contract ensures is right by the account, where the account agrees with the tables before it.
use Rattle.std.proofs.Common.{◌≡◌, ◌≢◌, ℕ, ◌<◌, ◌≤◌, ◌+◌, Bool, true, false, cond, not, ◌&&◌, ◌==◌, List, [], ◌∷◌, None, Some, Ok, Option, Result, length, is_some, nat_lt, slice_set, refl, sym, ap, ap₂, ◌∙◌, subst, arith, ◌⊎◌, inl, inr}
use Rattle.std.specs.Option.{option_map}
use Rattle.std.proofs.lemmas.Bool.{cases_Bool, cond-true, ltb-true}
use Rattle.std.proofs.lemmas.Bool.Decides.{eqb_tells}
use Rattle.std.proofs.lemmas.List.{get_or-set_same, get_or-set_other}
use Rattle.fault.specs.Judging.{judge, first, unless}
use Rattle.fault.specs.declared.book.BookFault.{BookFault}
use Rattle.fault.specs.declared.book.BookFault.TheVariants as fault
use Rattle.fault.proofs.Judged.{cond_none}
use Rattle.network.specs.declared.counts.Counts.{Counts}
use Rattle.network.specs.declared.step.Step.{Step}
use Rattle.network.specs.Net.{Net}
use Rattle.network.specs.Steps.{Within}
use Rattle.cost.specs.Laws.{Ops}
use Rattle.semilightpath.specs.Scenes.{alone}
use Rattle.semilightpath.specs.Costs.{cost}
use Rattle.records.specs.declared.circuit.Circuit.{Circuit}
use Rattle.records.specs.declared.circuit.Circuit.TheVariants as circuit
use Rattle.records.specs.declared.state.SpanState.{SpanState}
use Rattle.records.specs.declared.state.SpanState.TheVariants.{Open, Shut}
use Rattle.records.specs.Chains.{Channel, channel_at, along, circuit_count, circuit_at, standing, route_of}
use Rattle.records.specs.Changes.{but}
use Rattle.records.specs.Standing.{standing_of}
use Rattle.moment.specs.Usable.{span_is_open, is_open}
use Rattle.pricing.specs.Pricing.{Prices, with_shut}
use Rattle.slip.specs.declared.setting.Setting.{Setting}
use Rattle.book.specs.declared.offer.Offer.{Offer}
use Rattle.book.specs.declared.offer.Offered.{Offered}
use Rattle.book.specs.declared.status.Status.{Status}
use Rattle.book.specs.State.{Tables}
use Rattle.book.specs.Changes.{circuit_in, path_in, standing_in}
use Rattle.book.specs.Refusing.{same_counts, of_state, is_offered, is_lit, is_standing, offer_refusal, trial_refusal, spend_refusal, darken_refusal, look_refusal}
use Rattle.book.specs.Answering.{scene_in, scene_without, OfferAnswers, spent, seen, slipped}
use Rattle.book.specs.Calls.{Offers, Tries, Looks, Slips, Reckons}
use Rattle.book.proofs.Ordered.{counts_same, offer_in_order}
use Rattle.account.specs.Events.{Asked, Event, offers, confirms, withdraws, darkens, shuts, tries, slips, looks, reckons}
use Rattle.account.specs.Accounts.{Account, noted, standing_by, path_by, is_held, scene_by}
use Rattle.account.specs.Due.{spend_due, darken_due}
use Rattle.account.specs.Law.{Ensured, status_by, IsRight}
use Rattle.account.proofs.Standing.{same_path, same_stands}
use Rattle.account.proofs.Fares.{same_scene}
use Rattle.account.proofs.Dues.{same_offer_due, same_slip_due, same_reckon_due}

-- a span that is shut, and the others
pub shut_opens : (spans : List SpanState) (e : ℕ) → e < length spans → (i : ℕ) → span_is_open (slice_set spans e Shut) i ≡ but e false (span_is_open spans) i
shut_opens spans e h i = go (eqb_tells i e)
  where
    go : ((i == e ≡ true) × (i ≡ e)) ⊎ ((i == e ≡ false) × (i ≢ e)) → span_is_open (slice_set spans e Shut) i ≡ but e false (span_is_open spans) i
    go (inl q) = ap (span_is_open (slice_set spans e Shut)) q.1 ∙ ap is_open (get_or-set_same spans e Shut Open h) ∙ sym (ap (λ b. cond b false (span_is_open spans i)) q.0)
    go (inr q) = ap is_open (get_or-set_other spans e i Shut Open q.1) ∙ sym (ap (λ b. cond b false (span_is_open spans i)) q.0)

pub but_cond : (b : Bool) (v u w : Bool) → u ≡ w → cond b v u ≡ cond b v w
but_cond true v u w e = refl
but_cond false v u w e = e

offered_is : (k : Circuit) → is_offered k ≡ (is_standing k && not (is_lit k))
offered_is circuit.Free = refl
offered_is (circuit.Offered r) = refl
offered_is (circuit.Lit r) = refl

-- what is seen of a circuit
seen_is : (n : Counts) (channels : List Channel) (k : Circuit) → seen k (along n channels (standing k)) ≡ option_map (status_by (is_lit k)) (standing_of n channels (standing k))
seen_is n channels circuit.Free = refl
seen_is n channels (circuit.Offered r) = refl
seen_is n channels (circuit.Lit r) = refl

-- what is true of a trial that is not refused before the search
trial_in_order : (m n : Counts) (s t e room : ℕ) → trial_refusal m n s t e room ≡ None → (m ≡ n) × (e < m.spans)
trial_in_order m n s t e room due =
    let a = cond_none (same_counts m n) fault.OtherCounts _ due in
    let b = cond_none (nat_lt s n.nodes && nat_lt t n.nodes) fault.NoNode _ a.1 in
    let d = cond_none (not (s == t)) fault.SameNode _ b.1 in
    let f = cond_none (nat_lt e m.spans) fault.NoSpan _ d.1 in
    (counts_same m n a.0, ltb-true e m.spans f.0)

module _ (n : Counts) (mark : ℕ) (x : Tables) (a : Account) (l : ℕ → Bool)
    (stands : (c : ℕ) → standing_in n x c ≡ standing_by a c)
    (opens : (e : ℕ) → e < n.spans → span_is_open x.spans e ≡ a.is_open e)
    (holds : (s : Step) → Within n s → is_some (channel_at n x.channels s) ≡ is_held a s)
    (lit : (c : ℕ) → c < circuit_count → is_lit (circuit_in x c) ≡ l c)
    (spanned : n.spans ≤ length x.spans) where
  scene_is : (w : Net) → n ≡ w.counts → scene_in w x ≡ scene_by w a
  scene_is w e =
      same_scene w x.channels x.spans a (λ i h. opens i (subst (λ k. i < k.spans) (sym e) h))
      (λ s h. ap (λ k. is_some (channel_at k x.channels s)) (sym e) ∙ holds s (subst (λ k. Within k s) (sym e) h))

  scene_with : (w : Net) (i : ℕ) → n ≡ w.counts → i < n.spans → scene_without w x i ≡ scene_by w (noted i a)
  scene_with w i e l =
      same_scene w x.channels (with_shut i x.spans) (noted i a)
      (λ j h. shut_opens x.spans i (omega (arith, l, spanned)) j ∙ but_cond (j == i) false (span_is_open x.spans j) (a.is_open j) (opens j (subst (λ k. j < k.spans) (sym e) h)))
      (λ s h. ap (λ k. is_some (channel_at k x.channels s)) (sym e) ∙ holds s (subst (λ k. Within k s) (sym e) h))

  offer_right : (q : Asked) (c : ℕ) (p : List Step) (r : Result (Offered ℕ) BookFault) (y : Tables) → p ≡ path_in n y c → Offers q.kind q.net n mark x c q.from q.to q.room r y → IsRight n mark a l (offers q c p r)
  offer_right q c p r y pe call =
      subst (λ z. OfferAnswers q.kind (scene_by q.net a) mark c q.from q.to p z r) (same_offer_due n x a c (stands c) q)
      (go (offer_refusal n q.net.counts x c q.from q.to q.room) refl (subst (λ u. OfferAnswers q.kind (scene_in q.net x) mark c q.from q.to u (offer_refusal n q.net.counts x c q.from q.to q.room) r) (sym pe) call.answer))
    where
      go : (z : Option BookFault) → offer_refusal n q.net.counts x c q.from q.to q.room ≡ z → OfferAnswers q.kind (scene_in q.net x) mark c q.from q.to p z r → OfferAnswers q.kind (scene_by q.net a) mark c q.from q.to p z r
      go (Some f) e h = h
      go None e h = subst (λ g. OfferAnswers q.kind g mark c q.from q.to p None r) (scene_is q.net (offer_in_order n q.net.counts x c q.from q.to q.room e).counts) h

  trial_right : (q : Asked) (e : ℕ) (r : Result ℕ BookFault) → Tries q.kind q.net n x q.from q.to e q.room r → IsRight n mark a l (tries q e r)
  trial_right q e r call = go (trial_refusal n q.net.counts q.from q.to e q.room) refl call
    where
      go : (z : Option BookFault) → trial_refusal n q.net.counts q.from q.to e q.room ≡ z → Prices q.kind (scene_without q.net x e) q.from q.to z r → Prices q.kind (scene_by q.net (noted e a)) q.from q.to z r
      go (Some f) i h = h
      go None i h =
          let is = trial_in_order n q.net.counts q.from q.to e q.room i in
          subst (λ g. Prices q.kind g q.from q.to None r) (scene_with q.net e is.0 is.1) h

  spend_same : (o : Offer) → spend_refusal mark x o ≡ spend_due mark a l o
  spend_same o =
      let is = offered_is (circuit_in x o.circuit) ∙ ap₂ (λ b c. b && not c) (same_stands n x a o.circuit o.known (stands o.circuit)) (lit o.circuit o.known) in
      ap (λ b. first (judge (o.mark == mark) fault.OtherBook ∷ of_state b ∷ [])) is

  darken_same : (c : ℕ) → darken_refusal x c ≡ darken_due l c
  darken_same c = go (cases_Bool (nat_lt c circuit_count))
    where
      whole : Bool → Bool → Option BookFault
      whole k b = first (judge k fault.NoCircuit ∷ of_state b ∷ [])

      go : (nat_lt c circuit_count ≡ true) ⊎ (nat_lt c circuit_count ≡ false) → whole (nat_lt c circuit_count) (is_lit (circuit_in x c)) ≡ whole (nat_lt c circuit_count) (l c)
      go (inl q) = ap (whole (nat_lt c circuit_count)) (lit c (ltb-true c circuit_count q))
      go (inr q) = ap (λ k. whole k (is_lit (circuit_in x c))) q ∙ sym (ap (λ k. whole k (l c)) q)

  same_length : (c : ℕ) → length (path_in n x c) ≡ length (path_by a c)
  same_length c = ap length (same_path n x a c (stands c))

  slip_right : (w : Net) (c : ℕ) (b b' : List Setting) (r : Result ℕ BookFault) → Slips w n x c b r b' → IsRight n mark a l (slips w c b r b')
  slip_right w c b b' r call =
      let due = same_slip_due n x a c (stands c) w (length b) in
      let path = same_path n x a c (stands c) in
      (call.answer ∙ ap₂ (λ z p. unless z (length p + 1)) due path, call.settings ∙ ap₂ (λ z p. slipped z w p b) due path)

  look_right : (c : ℕ) (r : Result (Option Status) BookFault) → Looks n x c r → IsRight n mark a l (looks c r)
  look_right c r call = call ∙ go (look_refusal c) refl
    where
      go : (z : Option BookFault) → look_refusal c ≡ z → unless z (seen (circuit_in x c) (path_in n x c)) ≡ unless z (option_map (status_by (l c)) (standing_by a c))
      go (Some f) e = refl
      go None e =
          let i = cond_none (nat_lt c circuit_count) fault.NoCircuit _ e in
          let here : route_of x.circuits c ≡ standing (circuit_in x c) = cond-true (nat_lt c circuit_count) (standing (circuit_at x.circuits c)) None i.0 in
          ap Ok (ap (λ u. seen (circuit_in x c) (along n x.channels u)) here ∙ seen_is n x.channels (circuit_in x c)
          ∙ ap₂ (λ b z. option_map (status_by b) z) (lit c (ltb-true c circuit_count i.0)) (ap (standing_of n x.channels) (sym here) ∙ stands c))

  reckon_right : (w : Net) (k : Ops ℕ) (c : ℕ) (r : Result ℕ BookFault) → Reckons k w n x c r → IsRight n mark a l (reckons w k c r)
  reckon_right w k c r call = call ∙ ap₂ (λ z p. unless z (cost k (alone w) p)) (same_reckon_due n x a c (stands c) w) (same_path n x a c (stands c))

  pub call_right : (e : Event) (y : Tables) → Ensured n mark x e y → IsRight n mark a l e
  call_right (offers q c p r) y call = offer_right q c p r y call.0 call.1
  call_right (confirms o r) y call = call.answer ∙ ap (λ z. spent z o o.circuit) (spend_same o)
  call_right (withdraws o r) y call = call.answer ∙ ap₂ (λ z k. spent z o k) (spend_same o) (same_length o.circuit)
  call_right (darkens c r) y call = call.answer ∙ ap₂ (λ z k. unless z k) (darken_same c) (same_length c)
  call_right (shuts e r) y call = call.answer
  call_right (tries q e r) y call = trial_right q e r call.1
  call_right (slips w c b r b') y call = slip_right w c b b' r call.1
  call_right (looks c r) y call = look_right c r call.1
  call_right (reckons w k c r) y call = reckon_right w k c r call.1
