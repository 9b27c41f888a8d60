-- Which circuits are lit, by the records and by the calls.
use Rattle.std.proofs.Common.{◌≡◌, ◌≢◌, ℕ, ◌<◌, Bool, true, false, cond, ◌==◌, List, length, None, Some, Ok, Err, Option, Result, nat_lt, slice_set, refl, sym, ap, ◌∙◌, arith, ◌⊎◌, inl, inr}
use Rattle.std.proofs.lemmas.Bool.{ltb-true}
use Rattle.std.proofs.lemmas.Bool.Decides.{eqb_tells}
use Rattle.std.proofs.lemmas.List.{get_or-set_same, get_or-set_other}
use Rattle.fault.specs.Judging.{unless}
use Rattle.fault.specs.declared.book.BookFault.{BookFault}
use Rattle.fault.specs.declared.book.BookFault.TheVariants as fault
use Rattle.fault.proofs.Judged.{cond_none}
use Rattle.network.specs.declared.counts.Counts.{Counts}
use Rattle.network.specs.declared.step.Step.{Step}
use Rattle.records.specs.declared.circuit.Circuit.{Circuit}
use Rattle.records.specs.declared.circuit.Circuit.TheVariants as circuit
use Rattle.records.specs.Chains.{circuit_count, circuit_at}
use Rattle.records.specs.Changes.{but, route_along}
use Rattle.book.specs.declared.offer.Offer.{Offer}
use Rattle.book.specs.declared.offer.Offered.{Offered}
use Rattle.book.specs.State.{Tables}
use Rattle.book.specs.Changes.{lights, frees, shuts, lit, circuit_in, path_in, Makes}
use Rattle.book.specs.Refusing.{is_offered, is_lit, offer_refusal, spend_refusal, darken_refusal, shut_refusal}
use Rattle.book.specs.Answering.{scene_in, OfferAnswers, spent, unrefused}
use Rattle.book.specs.Calls.{Offers}
use Rattle.book.proofs.Ordered.{InOrder, offer_in_order}
use Rattle.book.proofs.Sounds.{Good}
use Rattle.account.specs.Events.{Asked, Event, offers, confirms, withdraws, darkens, shuts, tries, slips, looks, reckons}
use Rattle.account.specs.Accounts.{lit_after}
use Rattle.account.specs.Law.{Ensured}

-- the record of one circuit is another, and the others stay
set_lit : (circuits : List Circuit) (c : ℕ) (k : Circuit) → c < length circuits → (d : ℕ) → is_lit (circuit_at (slice_set circuits c k) d) ≡ but c (is_lit k) (λ i. is_lit (circuit_at circuits i)) d
set_lit circuits c k h d = go (eqb_tells d c)
  where
    go : ((d == c ≡ true) × (d ≡ c)) ⊎ ((d == c ≡ false) × (d ≢ c)) → is_lit (circuit_at (slice_set circuits c k) d) ≡ but c (is_lit k) (λ i. is_lit (circuit_at circuits i)) d
    go (inl q) = ap (λ i. is_lit (circuit_at (slice_set circuits c k) i)) q.1 ∙ ap is_lit (get_or-set_same circuits c k circuit.Free h) ∙ sym (ap (λ b. cond b (is_lit k) (is_lit (circuit_at circuits d))) q.0)
    go (inr q) = ap is_lit (get_or-set_other circuits c d k circuit.Free q.1) ∙ sym (ap (λ b. cond b (is_lit k) (is_lit (circuit_at circuits d))) q.0)

lit_offered : (k : Circuit) → is_offered k ≡ true → is_lit (lit k) ≡ true
lit_offered circuit.Free e = cc
lit_offered (circuit.Offered r) e = refl
lit_offered (circuit.Lit r) e = cc

offered_unlit : (k : Circuit) → is_offered k ≡ true → is_lit k ≡ false
offered_unlit circuit.Free e = refl
offered_unlit (circuit.Offered r) e = refl
offered_unlit (circuit.Lit r) e = cc

but_same : (b : Bool) (v u w : Bool) → u ≡ w → cond b v u ≡ cond b v w
but_same true v u w e = refl
but_same false v u w e = e

module _ (n : Counts) (mark : ℕ) (x y : Tables) (l : ℕ → Bool) (old : (c : ℕ) → c < circuit_count → is_lit (circuit_in x c) ≡ l c) (good : Good n x) where
  -- circuit c's record is written
  one_lit : (c : ℕ) (k : Circuit) (b : Bool) → c < circuit_count → y.circuits ≡ slice_set x.circuits c k → is_lit k ≡ b → (d : ℕ) → d < circuit_count → is_lit (circuit_in y d) ≡ but c b l d
  one_lit c k b h e f d i =
      ap (λ t. is_lit (circuit_at t d)) e ∙ set_lit x.circuits c k (omega (arith, h, good.rows)) d ∙ but_same (d == c) (is_lit k) (is_lit (circuit_in x d)) (l d) (old d i) ∙ ap (λ v. cond (d == c) v (l d)) f

  none_lit : y.circuits ≡ x.circuits → (d : ℕ) → d < circuit_count → is_lit (circuit_in y d) ≡ l d
  none_lit e d i = ap (λ t. is_lit (circuit_at t d)) e ∙ old d i

  stays : (c : ℕ) (d : ℕ) → l c ≡ false → but c false l d ≡ l d
  stays c d e = go (eqb_tells d c)
    where
      go : ((d == c ≡ true) × (d ≡ c)) ⊎ ((d == c ≡ false) × (d ≢ c)) → but c false l d ≡ l d
      go (inl q) = ap (λ b. cond b false (l d)) q.0 ∙ sym e ∙ ap l (sym q.1)
      go (inr q) = ap (λ b. cond b false (l d)) q.0

  offer_lit : (q : Asked) (c : ℕ) (p : List Step) (r : Result (Offered ℕ) BookFault) → Offers q.kind q.net n mark x c q.from q.to q.room r y → (d : ℕ) → d < circuit_count → is_lit (circuit_in y d) ≡ lit_after (offers q c p r) l d
  offer_lit q c p (Err f) call = none_lit (ap (λ (z : Tables). z.circuits) call.change.tables)
  offer_lit q c p (Ok k) call = λ d i.
      one_lit c (circuit.Offered (route_along q.from q.to (path_in n y c))) false order.known (ap (λ (z : Tables). z.circuits) call.change.tables) refl d i
      ∙ stays c d (sym (old c order.known) ∙ ap is_lit order.free)
    where
      in_order : (z : Option BookFault) → offer_refusal n q.net.counts x c q.from q.to q.room ≡ z → OfferAnswers q.kind (scene_in q.net x) mark c q.from q.to (path_in n y c) z (Ok k) → InOrder n q.net.counts x c q.from q.to
      in_order None e h = offer_in_order n q.net.counts x c q.from q.to q.room e
      in_order (Some f) e h = cc

      order : InOrder n q.net.counts x c q.from q.to
      order = in_order (offer_refusal n q.net.counts x c q.from q.to q.room) refl call.answer

  confirm_lit : (o : Offer) (z : Option BookFault) (r : Result ℕ (BookFault × Offer)) → spend_refusal mark x o ≡ z → r ≡ spent z o o.circuit → Makes n (unrefused z (lights o.circuit)) x y → (d : ℕ) → d < circuit_count → is_lit (circuit_in y d) ≡ lit_after (confirms o r) l d
  confirm_lit o None (Ok k) due e made =
      let i = cond_none (o.mark == mark) fault.OtherBook _ due in
      let j = cond_none (is_offered (circuit_in x o.circuit)) fault.CircuitState _ i.1 in
      one_lit o.circuit (lit (circuit_in x o.circuit)) true o.known (ap (λ (z : Tables). z.circuits) made.tables) (lit_offered (circuit_in x o.circuit) j.0)
  confirm_lit o None (Err i) due e made = cc
  confirm_lit o (Some f) (Ok k) due e made = cc
  confirm_lit o (Some f) (Err i) due e made = none_lit (ap (λ (z : Tables). z.circuits) made.tables)

  withdraw_lit : (o : Offer) (z : Option BookFault) (k : ℕ) (r : Result ℕ (BookFault × Offer)) → spend_refusal mark x o ≡ z → r ≡ spent z o k → Makes n (unrefused z (frees o.circuit)) x y → (d : ℕ) → d < circuit_count → is_lit (circuit_in y d) ≡ lit_after (withdraws o r) l d
  withdraw_lit o None k (Ok i) due e made = λ d h.
      let j = cond_none (o.mark == mark) fault.OtherBook _ due in
      let f = cond_none (is_offered (circuit_in x o.circuit)) fault.CircuitState _ j.1 in
      one_lit o.circuit circuit.Free false o.known (ap (λ (z : Tables). z.circuits) made.tables) refl d h
      ∙ stays o.circuit d (sym (old o.circuit o.known) ∙ offered_unlit (circuit_in x o.circuit) f.0)
  withdraw_lit o None k (Err i) due e made = cc
  withdraw_lit o (Some f) k (Ok i) due e made = cc
  withdraw_lit o (Some f) k (Err i) due e made = none_lit (ap (λ (z : Tables). z.circuits) made.tables)

  darken_lit : (c : ℕ) (z : Option BookFault) (k : ℕ) (r : Result ℕ BookFault) → darken_refusal x c ≡ z → r ≡ unless z k → Makes n (unrefused z (frees c)) x y → (d : ℕ) → d < circuit_count → is_lit (circuit_in y d) ≡ lit_after (darkens c r) l d
  darken_lit c None k (Ok i) due e made =
      let j = cond_none (nat_lt c circuit_count) fault.NoCircuit _ due in
      one_lit c circuit.Free false (ltb-true c circuit_count j.0) (ap (λ (z : Tables). z.circuits) made.tables) refl
  darken_lit c None k (Err i) due e made = cc
  darken_lit c (Some f) k (Ok i) due e made = cc
  darken_lit c (Some f) k (Err i) due e made = none_lit (ap (λ (z : Tables). z.circuits) made.tables)

  shut_lit : (e : ℕ) (z : Option BookFault) → Makes n (unrefused z (shuts e)) x y → (d : ℕ) → d < circuit_count → is_lit (circuit_in y d) ≡ l d
  shut_lit e None made = none_lit (ap (λ (z : Tables). z.circuits) made.tables)
  shut_lit e (Some f) made = none_lit (ap (λ (z : Tables). z.circuits) made.tables)

  pub call_lit : (e : Event) → Ensured n mark x e y → (d : ℕ) → d < circuit_count → is_lit (circuit_in y d) ≡ lit_after e l d
  call_lit (offers q c p r) call = offer_lit q c p r call.1
  call_lit (confirms o r) call = confirm_lit o (spend_refusal mark x o) r refl call.answer call.change
  call_lit (withdraws o r) call = withdraw_lit o (spend_refusal mark x o) _ r refl call.answer call.change
  call_lit (darkens c r) call = darken_lit c (darken_refusal x c) _ r refl call.answer call.change
  call_lit (shuts e r) call = shut_lit e (shut_refusal n e) call.change
  call_lit (tries q e r) call = none_lit (ap (λ (z : Tables). z.circuits) call.0)
  call_lit (slips w c b r b') call = none_lit (ap (λ (z : Tables). z.circuits) call.0)
  call_lit (looks c r) call = none_lit (ap (λ (z : Tables). z.circuits) call.0)
  call_lit (reckons w k c r) call = none_lit (ap (λ (z : Tables). z.circuits) call.0)
