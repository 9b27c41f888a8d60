-- What a call makes of what stands, of what is open and of the paths, the account makes of them too.
use Rattle.std.proofs.Common.{◌≡◌, ℕ, ◌<◌, Bool, true, false, cond, ◌&&◌, ◌==◌, List, [], ◌∷◌, None, Some, Ok, Err, Option, Result, refl, sym, ap, ◌∙◌, subst}
use Rattle.std.specs.Option.{option_map, IfSome, IsSome}
use Rattle.std.proofs.lemmas.Bool.{false≢true}
use Rattle.fault.specs.Judging.{unless}
use Rattle.fault.specs.declared.book.BookFault.{BookFault}
use Rattle.network.specs.declared.counts.Counts.{Counts}
use Rattle.network.specs.declared.step.Step.{Step}
use Rattle.network.specs.Net.{Net, tariff_of}
use Rattle.network.specs.Steps.{distinct}
use Rattle.cost.specs.Laws.{Ops}
use Rattle.semilightpath.specs.declared.point.Point.{Point}
use Rattle.semilightpath.specs.Scenes.{Scene, alone}
use Rattle.semilightpath.specs.Paths.{Goes, past, IsSemilightpath, begin}
use Rattle.semilightpath.specs.Cheapest.{IsCheapest}
use Rattle.records.specs.Changes.{but}
use Rattle.records.specs.Standing.{Standing, standing_on}
use Rattle.moment.specs.Usable.{span_is_open, channel_is_free}
use Rattle.book.specs.declared.offer.Offer.{Offer}
use Rattle.book.specs.declared.offer.Offered.{Offered}
use Rattle.book.specs.State.{Tables}
use Rattle.book.specs.Changes.{frees, lights, shuts, path_in, standing_in, Makes}
use Rattle.book.specs.Refusing.{offer_refusal, spend_refusal, darken_refusal, shut_refusal}
use Rattle.book.specs.Answering.{scene_in, OfferAnswers, IsOffer, offer_change, spent, unrefused}
use Rattle.book.specs.Calls.{Offers}
use Rattle.account.specs.Events.{Asked, Event, offers, confirms, withdraws, darkens, shuts, tries, slips, looks, reckons}
use Rattle.account.specs.Accounts.{Entry, Account, with_entry, ordered, after_call, standing_by}
use Rattle.account.specs.Law.{Ensured, IsPath}

-- ---- an offer that was accepted
pub accepted_offer : {V : Type 0} (o : Ops V) (g : Scene) (mark c s t : ℕ) (p : List Step) (z : Option BookFault) (q : Offered V) → OfferAnswers o g mark c s t p z (Ok q) → IsOffer o g mark c s t p q
accepted_offer o g mark c s t p None q h = h
accepted_offer o g mark c s t p (Some f) q h = cc

fare_carried : (b : Bool) (r : Option ℕ) → IsSome (cond b r None) → IsSome r
fare_carried true r h = h
fare_carried false r h = absurd (false≢true h)

goes_carried : (w : Net) (x : Tables) (a : Point) (p : List Step) → Goes (scene_in w x) a p → Goes (alone w) a p
goes_carried w x a [] h = tt
goes_carried w x a (e ∷ p) h =
    (((h.0.0.0, fare_carried (span_is_open x.spans e.span && channel_is_free w.counts x.channels e) (tariff_of w e.span e.channel) h.0.0.1), h.0.1, h.0.2), goes_carried w x (past w e) p h.1)

-- its path is a semilightpath of the network
pub path_carried : {V : Type 0} (o : Ops V) (w : Net) (x : Tables) (s t : ℕ) (p : List Step) (v : V) → IsCheapest o (scene_in w x) s t p v → IsSemilightpath (alone w) s t p × (distinct p ≡ true)
path_carried o w x s t p v best = ((best.path.0, goes_carried w x (begin s) p best.path.1, best.path.2), best.once)

-- ---- one entry for another
but_standing : (b : Bool) (u v : Option Standing) (y z : Option Entry) → u ≡ option_map (λ e. e.standing) y → v ≡ option_map (λ e. e.standing) z → cond b u v ≡ option_map (λ e. e.standing) (cond b y z)
but_standing true u v y z e f = e
but_standing false u v y z e f = f

but_path : (b : Bool) (y z : Option Entry) → IfSome y IsPath → IfSome z IsPath → IfSome (cond b y z) IsPath
but_path true y z h k = h
but_path false y z h k = k

module _ (n : Counts) (mark : ℕ) (x y : Tables) (a : Account) (old : (d : ℕ) → standing_in n x d ≡ standing_by a d) where
  -- the circuits that stand
  offer_stands : (q : Asked) (c : ℕ) (p : List Step) (r : Result (Offered ℕ) BookFault) → p ≡ path_in n y c → Makes n (offer_change c q.from q.to (path_in n y c) r) x y → (d : ℕ) → standing_in n y d ≡ standing_by (after_call (offers q c p r) a) d
  offer_stands q c p (Ok k) e made d =
      made.stands d ∙ but_standing (d == c) (Some (standing_on q.from q.to (path_in n y c))) (standing_in n x d) (Some (ordered q p)) (a.entry d) (ap (λ u. Some (standing_on q.from q.to u)) (sym e)) (old d)
  offer_stands q c p (Err f) e made d = made.stands d ∙ old d

  gone : (c d : ℕ) → but c None (standing_in n x) d ≡ standing_by (with_entry c None a) d
  gone c d = but_standing (d == c) None (standing_in n x d) None (a.entry d) refl (old d)

  spent_stands : (o : Offer) (z : Option BookFault) (k : ℕ) (r : Result ℕ (BookFault × Offer)) → r ≡ spent z o k → Makes n (unrefused z (frees o.circuit)) x y → (d : ℕ) → standing_in n y d ≡ standing_by (after_call (withdraws o r) a) d
  spent_stands o None k (Ok i) e made d = made.stands d ∙ gone o.circuit d
  spent_stands o None k (Err i) e made d = cc
  spent_stands o (Some f) k (Ok i) e made d = cc
  spent_stands o (Some f) k (Err i) e made d = made.stands d ∙ old d

  darkened_stands : (c : ℕ) (z : Option BookFault) (k : ℕ) (r : Result ℕ BookFault) → r ≡ unless z k → Makes n (unrefused z (frees c)) x y → (d : ℕ) → standing_in n y d ≡ standing_by (after_call (darkens c r) a) d
  darkened_stands c None k (Ok i) e made d = made.stands d ∙ gone c d
  darkened_stands c None k (Err i) e made d = cc
  darkened_stands c (Some f) k (Ok i) e made d = cc
  darkened_stands c (Some f) k (Err i) e made d = made.stands d ∙ old d

  lit_stands : (c : ℕ) (z : Option BookFault) → Makes n (unrefused z (lights c)) x y → (d : ℕ) → standing_in n y d ≡ standing_by a d
  lit_stands c None made d = made.stands d ∙ old d
  lit_stands c (Some f) made d = made.stands d ∙ old d

  shut_stands : (e : ℕ) (z : Option BookFault) (r : Result (Unit {0}) BookFault) → Makes n (unrefused z (shuts e)) x y → (d : ℕ) → standing_in n y d ≡ standing_by (after_call (shuts e r) a) d
  shut_stands e None (Ok u) made d = made.stands d ∙ old d
  shut_stands e None (Err f) made d = made.stands d ∙ old d
  shut_stands e (Some g) (Ok u) made d = made.stands d ∙ old d
  shut_stands e (Some g) (Err f) made d = made.stands d ∙ old d

  pub call_stands : (e : Event) → Ensured n mark x e y → (d : ℕ) → standing_in n y d ≡ standing_by (after_call e a) d
  call_stands (offers q c p r) call = offer_stands q c p r call.0 call.1.change
  call_stands (confirms o r) call = lit_stands o.circuit (spend_refusal mark x o) call.change
  call_stands (withdraws o r) call = spent_stands o (spend_refusal mark x o) _ r call.answer call.change
  call_stands (darkens c r) call = darkened_stands c (darken_refusal x c) _ r call.answer call.change
  call_stands (shuts e r) call = shut_stands e (shut_refusal n e) r call.change
  call_stands (tries q e r) call = λ d. ap (λ t. standing_in n t d) call.0 ∙ old d
  call_stands (slips w c b r b') call = λ d. ap (λ t. standing_in n t d) call.0 ∙ old d
  call_stands (looks c r) call = λ d. ap (λ t. standing_in n t d) call.0 ∙ old d
  call_stands (reckons w k c r) call = λ d. ap (λ t. standing_in n t d) call.0 ∙ old d

module _ (n : Counts) (mark : ℕ) (x y : Tables) (a : Account) (old : (i : ℕ) → i < n.spans → span_is_open x.spans i ≡ a.is_open i) where
  -- the spans that are open
  offer_opens : (q : Asked) (c : ℕ) (p p' : List Step) (r : Result (Offered ℕ) BookFault) → Makes n (offer_change c q.from q.to p' r) x y → (i : ℕ) → i < n.spans → span_is_open y.spans i ≡ (after_call (offers q c p r) a).is_open i
  offer_opens q c p p' (Ok k) made i h = made.opens i ∙ old i h
  offer_opens q c p p' (Err f) made i h = made.opens i ∙ old i h

  unshut_opens : (c : ℕ) (z : Option BookFault) (made : Makes n (unrefused z (frees c)) x y) (i : ℕ) → i < n.spans → span_is_open y.spans i ≡ a.is_open i
  unshut_opens c None made i h = made.opens i ∙ old i h
  unshut_opens c (Some f) made i h = made.opens i ∙ old i h

  spent_opens : (o : Offer) (r : Result ℕ (BookFault × Offer)) (i : ℕ) → (after_call (withdraws o r) a).is_open i ≡ a.is_open i
  spent_opens o (Ok k) i = refl
  spent_opens o (Err f) i = refl

  darkened_opens : (c : ℕ) (r : Result ℕ BookFault) (i : ℕ) → (after_call (darkens c r) a).is_open i ≡ a.is_open i
  darkened_opens c (Ok k) i = refl
  darkened_opens c (Err f) i = refl

  lit_opens : (c : ℕ) (z : Option BookFault) (made : Makes n (unrefused z (lights c)) x y) (i : ℕ) → i < n.spans → span_is_open y.spans i ≡ a.is_open i
  lit_opens c None made i h = made.opens i ∙ old i h
  lit_opens c (Some f) made i h = made.opens i ∙ old i h

  but_open : (b : Bool) (u v : Bool) → u ≡ v → cond b false u ≡ cond b false v
  but_open true u v e = refl
  but_open false u v e = e

  shut_opens : (e : ℕ) (z : Option BookFault) (r : Result (Unit {0}) BookFault) → r ≡ unless z tt → Makes n (unrefused z (shuts e)) x y → (i : ℕ) → i < n.spans → span_is_open y.spans i ≡ (after_call (shuts e r) a).is_open i
  shut_opens e None (Ok u) is made i h = made.opens i ∙ but_open (i == e) (span_is_open x.spans i) (a.is_open i) (old i h)
  shut_opens e None (Err f) is made i h = cc
  shut_opens e (Some g) (Ok u) is made i h = cc
  shut_opens e (Some g) (Err f) is made i h = made.opens i ∙ old i h

  pub call_opens : (e : Event) → Ensured n mark x e y → (i : ℕ) → i < n.spans → span_is_open y.spans i ≡ (after_call e a).is_open i
  call_opens (offers q c p r) call = offer_opens q c p _ r call.1.change
  call_opens (confirms o r) call = lit_opens o.circuit (spend_refusal mark x o) call.change
  call_opens (withdraws o r) call = λ i h. unshut_opens o.circuit (spend_refusal mark x o) call.change i h ∙ sym (spent_opens o r i)
  call_opens (darkens c r) call = λ i h. unshut_opens c (darken_refusal x c) call.change i h ∙ sym (darkened_opens c r i)
  call_opens (shuts e r) call = shut_opens e (shut_refusal n e) r call.answer call.change
  call_opens (tries q e r) call = λ i h. ap (λ t. span_is_open t.spans i) call.0 ∙ old i h
  call_opens (slips w c b r b') call = λ i h. ap (λ t. span_is_open t.spans i) call.0 ∙ old i h
  call_opens (looks c r) call = λ i h. ap (λ t. span_is_open t.spans i) call.0 ∙ old i h
  call_opens (reckons w k c r) call = λ i h. ap (λ t. span_is_open t.spans i) call.0 ∙ old i h

module _ (n : Counts) (mark : ℕ) (x y : Tables) (a : Account) (old : (d : ℕ) → IfSome (a.entry d) IsPath) where
  -- the paths that stand
  offer_paths : (q : Asked) (c : ℕ) (p : List Step) (r : Result (Offered ℕ) BookFault) → p ≡ path_in n y c → Offers q.kind q.net n mark x c q.from q.to q.room r y → (d : ℕ) → IfSome ((after_call (offers q c p r) a).entry d) IsPath
  offer_paths q c p (Err f) e call d = old d
  offer_paths q c p (Ok k) e call d =
      let is = accepted_offer q.kind (scene_in q.net x) mark c q.from q.to (path_in n y c) (offer_refusal n q.net.counts x c q.from q.to q.room) k call.answer in
      but_path (d == c) (Some (ordered q p)) (a.entry d) (subst (λ u. IsPath (ordered q u)) (sym e) (path_carried q.kind q.net x q.from q.to (path_in n y c) k.cost is.cheapest)) (old d)

  gone_path : (c d : ℕ) → IfSome ((with_entry c None a).entry d) IsPath
  gone_path c d = but_path (d == c) None (a.entry d) tt (old d)

  spent_paths : (o : Offer) (r : Result ℕ (BookFault × Offer)) (d : ℕ) → IfSome ((after_call (withdraws o r) a).entry d) IsPath
  spent_paths o (Ok k) d = gone_path o.circuit d
  spent_paths o (Err f) d = old d

  darkened_paths : (c : ℕ) (r : Result ℕ BookFault) (d : ℕ) → IfSome ((after_call (darkens c r) a).entry d) IsPath
  darkened_paths c (Ok k) d = gone_path c d
  darkened_paths c (Err f) d = old d

  shut_paths : (e : ℕ) (r : Result (Unit {0}) BookFault) (d : ℕ) → IfSome ((after_call (shuts e r) a).entry d) IsPath
  shut_paths e (Ok u) d = old d
  shut_paths e (Err f) d = old d

  pub call_paths : (e : Event) → Ensured n mark x e y → (d : ℕ) → IfSome ((after_call e a).entry d) IsPath
  call_paths (offers q c p r) call = offer_paths q c p r call.0 call.1
  call_paths (confirms o r) call = old
  call_paths (withdraws o r) call = spent_paths o r
  call_paths (darkens c r) call = darkened_paths c r
  call_paths (shuts e r) call = shut_paths e r
  call_paths (tries q e r) call = old
  call_paths (slips w c b r b') call = old
  call_paths (looks c r) call = old
  call_paths (reckons w k c r) call = old
