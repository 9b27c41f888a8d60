-- An order that is not refused, and the answer of the search for it.
use Rattle.std.proofs.Common.{◌≡◌, ℕ, ◌<◌, true, cond, ◌&&◌, List, [], ◌∷◌, None, Some, Ok, Err, Option, Result, nat_lt, nat_le, ◌==◌, refl, sym, ap, ◌∙◌, subst, length}
use Rattle.std.specs.Option.{option_or}
use Rattle.std.proofs.lemmas.Bool.{and_parts, eqb-true, ltb-true}
use Rattle.fault.specs.Judging.{judge, first, unless}
use Rattle.fault.specs.declared.book.BookFault.{BookFault}
use Rattle.fault.specs.declared.book.BookFault.TheVariants as fault
use Rattle.fault.proofs.Judged.{first-append, cond_none}
use Rattle.network.specs.declared.counts.Counts.{Counts}
use Rattle.network.specs.declared.step.Step.{Step}
use Rattle.network.specs.Net.{Net}
use Rattle.network.specs.Tariffs.{arrival_entries}
use Rattle.cost.specs.Laws.{Ops}
use Rattle.semilightpath.specs.Scenes.{Scene}
use Rattle.records.specs.declared.circuit.Circuit.{Circuit}
use Rattle.records.specs.declared.circuit.Circuit.TheVariants as circuit
use Rattle.records.specs.Chains.{circuit_count}
use Rattle.search.specs.declared.label.Known.{Known}
use Rattle.search.specs.declared.found.Found.{Found}
use Rattle.search.specs.Labels.{path_to}
use Rattle.search.specs.Answers.{refusal, Answers}
use Rattle.laying.proofs.Short.{path_short}
use Rattle.book.specs.declared.offer.Offered.{Offered}
use Rattle.book.specs.State.{Tables}
use Rattle.book.specs.Changes.{takes, circuit_in, path_in, Makes}
use Rattle.book.specs.Refusing.{is_free, same_counts, of_order, order_refusal, offer_refusal}
use Rattle.semilightpath.specs.Cheapest.{IsCheapest}
use Rattle.book.specs.Answering.{scene_in, OfferAnswers, offer_change}
use Rattle.book.specs.Calls.{Offers}
use Rattle.book.specs.Taking.{CanTake}
use Rattle.book.proofs.Offered.{cheapest_can}

pub fault_of : {A : Type 0} (r : Option BookFault) (x : A) (f : BookFault) → unless r x ≡ Err f → r ≡ Some f
fault_of None x f e = cc
fault_of (Some h) x f e = cc

no_fault : {A : Type 0} (r : Option BookFault) (x y : A) → unless r x ≡ Ok y → r ≡ None
no_fault None x y e = refl
no_fault (Some h) x y e = cc

-- what is true of an order that is not refused
pub record InOrder (m n : Counts) (x : Tables) (c s t : ℕ) : Type 0 where
  pub counts : m ≡ n
  pub known : c < circuit_count
  pub free : circuit_in x c ≡ circuit.Free
  pub nodes : (nat_lt s n.nodes && nat_lt t n.nodes) ≡ true

pub counts_same : (m n : Counts) → same_counts m n ≡ true → m ≡ n
counts_same m n e =
    let p = and_parts (m.nodes == n.nodes) (m.spans == n.spans && m.channels == n.channels) e in
    let q = and_parts (m.spans == n.spans) (m.channels == n.channels) p.1 in
    whole m n (eqb-true m.nodes n.nodes p.0) (eqb-true m.spans n.spans q.0) (eqb-true m.channels n.channels q.1)
  where
    made : ℕ → ℕ → ℕ → Counts
    made i j k = record { nodes = i; spans = j; channels = k }

    whole : (a b : Counts) → a.nodes ≡ b.nodes → a.spans ≡ b.spans → a.channels ≡ b.channels → a ≡ b
    whole a b h i j = ap (λ z. made z a.spans a.channels) h ∙ ap (λ z. made b.nodes z a.channels) i ∙ ap (made b.nodes b.spans) j

free_is : (k : Circuit) → is_free k ≡ true → k ≡ circuit.Free
free_is circuit.Free e = refl
free_is (circuit.Offered r) e = cc
free_is (circuit.Lit r) e = cc

in_order : (m n : Counts) (x : Tables) (c s t : ℕ) → order_refusal m n x c s t ≡ None → InOrder m n x c s t
in_order m n x c s t e =
    let a = cond_none (same_counts m n) fault.OtherCounts _ e in
    let b = cond_none (nat_lt c circuit_count) fault.NoCircuit _ a.1 in
    let d = cond_none (is_free (circuit_in x c)) fault.CircuitState _ b.1 in
    let f = cond_none (nat_lt s n.nodes && nat_lt t n.nodes) fault.NoNode _ d.1 in
    record { counts = counts_same m n a.0; known = ltb-true c circuit_count b.0; free = free_is (circuit_in x c) d.0; nodes = f.0 }

pub room_only : (m n : Counts) (x : Tables) (c s t room : ℕ) → offer_refusal m n x c s t room ≡ option_or (order_refusal m n x c s t) (first (judge (nat_le (arrival_entries n) room) fault.WorkTable ∷ []))
room_only m n x c s t room = first-append (of_order m n x c s t) (judge (nat_le (arrival_entries n) room) fault.WorkTable ∷ [])

-- an order that is refused is answered so
pub offer_early : {V : Type 0} (o : Ops V) (g : Scene) (mark c s t : ℕ) (p : List Step) (m n : Counts) (x : Tables) (room : ℕ) (j : Result (Unit {0}) BookFault) (f f' : BookFault) (r : Result (Offered V) BookFault)
    → j ≡ unless (order_refusal m n x c s t) tt → j ≡ Err f → f' ≡ f → r ≡ Err f' → OfferAnswers o g mark c s t p (offer_refusal m n x c s t room) r
offer_early o g mark c s t p m n x room j f f' r is e h q =
    let due : offer_refusal m n x c s t room ≡ Some f = room_only m n x c s t room ∙ ap (λ z. option_or z (first (judge (nat_le (arrival_entries n) room) fault.WorkTable ∷ []))) (fault_of (order_refusal m n x c s t) tt f (sym is ∙ e)) in
    subst (λ z. OfferAnswers o g mark c s t p z r) (sym due) (q ∙ ap Err h)

pub answers_at : {V : Type 0} (o : Ops V) (g : Scene) (n : Counts) (room s s' t t' : ℕ) (table : List (Option (Known V))) (k : Result (Found V) BookFault) → s' ≡ s → t' ≡ t → Answers o g s' t' table (refusal n s' t' room) k → Answers o g s t table (refusal n s t room) k
answers_at o g n room s s' t t' table k e f a =
    subst (λ i. Answers o g s i table (refusal n s i room) k) f (subst (λ i. Answers o g i t' table (refusal n i t' room) k) e a)

-- of an order that is not refused, an offer and the search for it refuse the same
same_due : (m n : Counts) (x : Tables) (c s t room : ℕ) → order_refusal m n x c s t ≡ None → refusal n s t room ≡ offer_refusal m n x c s t room
same_due m n x c s t room e =
    ap (λ b. cond b (first (judge (nat_le (arrival_entries n) room) fault.WorkTable ∷ [])) (Some fault.NoNode)) (in_order m n x c s t e).nodes
    ∙ sym (room_only m n x c s t room ∙ ap (λ z. option_or z (first (judge (nat_le (arrival_entries n) room) fault.WorkTable ∷ []))) e)

-- else the search's refusal is the answer
pub offer_late : {V : Type 0} (o : Ops V) (g : Scene) (mark c s t : ℕ) (p : List Step) (m n : Counts) (x : Tables) (room : ℕ) (j : Result (Unit {0}) BookFault) (u : Unit {0}) (table : List (Option (Known V))) (k : Result (Found V) BookFault) (f f' : BookFault) (r : Result (Offered V) BookFault)
    → j ≡ unless (order_refusal m n x c s t) tt → j ≡ Ok u → Answers o g s t table (refusal n s t room) k → k ≡ Err f → f' ≡ f → r ≡ Err f' → OfferAnswers o g mark c s t p (offer_refusal m n x c s t room) r
offer_late {V} o g mark c s t p m n x room j u table k f f' r is e a w h q =
    go (offer_refusal m n x c s t room) (subst (λ z. Answers o g s t table z k) (same_due m n x c s t room (no_fault _ tt u (sym is ∙ e))) a)
  where
    err : BookFault → Result (Found V) BookFault
    err i = Err i

    same_err : (i l : BookFault) → err i ≡ err l → i ≡ l
    same_err i l e = cc

    go : (z : Option BookFault) → Answers o g s t table z k → OfferAnswers o g mark c s t p z r
    go (Some y) a = q ∙ ap Err (h ∙ same_err f y (sym w ∙ a))
    go None a = subst (OfferAnswers o g mark c s t p None) (sym (q ∙ ap Err h)) (subst (λ i. Answers o g s t table None i) w a)

-- and a path that it finds can be taken
pub offer_can : {V : Type 0} (o : Ops V) (w : Net) (c s t : ℕ) (m : Counts) (x : Tables) (room : ℕ) (j : Result (Unit {0}) BookFault) (u : Unit {0}) (table : List (Option (Known V))) (k : Result (Found V) BookFault) (found : Found V)
    → j ≡ unless (order_refusal m w.counts x c s t) tt → j ≡ Ok u → Answers o (scene_in w x) s t table (refusal w.counts s t room) k → k ≡ Ok found → CanTake m x c (path_to m table found.end)
offer_can {V} o w c s t m x room j u table k found is e a q = go (refusal w.counts s t room) a
  where
    sound : InOrder m w.counts x c s t
    sound = in_order m w.counts x c s t (no_fault _ tt u (sym is ∙ e))

    go : (z : Option BookFault) → Answers o (scene_in w x) s t table z k → CanTake m x c (path_to m table found.end)
    go (Some y) a = absurd (ok_err found y (sym q ∙ a))
      where
        ok_err : (i : Found V) (l : BookFault) → Ok i ≡ Err l → ⊥
        ok_err i l e = cc
    go None a =
        subst (λ n. CanTake n x c (path_to n table found.end)) (sym sound.counts)
        (cheapest_can o w x c s t (path_to w.counts table found.end) found.cost sound.known sound.free (path_short w.counts table found.end) (subst (λ i. Answers o (scene_in w x) s t table None i) q a))

-- an order that is refused makes no change
pub no_offer : {V : Type 0} (n : Counts) (c s t : ℕ) (p : List Step) (x : Tables) (r : Result (Offered V) BookFault) (f : BookFault) → r ≡ Err f → Makes n (offer_change c s t p r) x x
no_offer {V} n c s t p x r f e = subst (λ i. Makes n (offer_change c s t p i) x x) (sym e) (record { tables = refl; stands = λ d. refl; opens = λ i. refl })

-- an order for which a path is found and taken is an offer
pub offer_made : {V : Type 0} (o : Ops V) (w : Net) (m : Counts) (mark c s t room : ℕ) (x y : Tables) (j : Result (Unit {0}) BookFault) (u : Unit {0}) (table : List (Option (Known V))) (k : Result (Found V) BookFault) (found : Found V) (q : Offered V)
    → j ≡ unless (order_refusal m w.counts x c s t) tt → j ≡ Ok u → Answers o (scene_in w x) s t table (refusal w.counts s t room) k → k ≡ Ok found
    → Makes m (takes c s t (path_to m table found.end) ∷ []) x y → path_in m y c ≡ path_to m table found.end → q.steps ≡ length (path_to m table found.end) → q.cost ≡ found.cost → q.offer.mark ≡ mark → q.offer.circuit ≡ c
    → Offers o w m mark x c s t room (Ok q) y
offer_made {V} o w m mark c s t room x y j u table k found q is e a f made path steps cost its_mark its_circuit =
    record { answer = go (offer_refusal m w.counts x c s t room) (subst (λ z. Answers o (scene_in w x) s t table z k) (same_due m w.counts x c s t room none) a); change = subst (λ p. Makes m (takes c s t p ∷ []) x y) (sym path) made }
  where
    none : order_refusal m w.counts x c s t ≡ None
    none = no_fault _ tt u (sym is ∙ e)

    counts : m ≡ w.counts
    counts = (in_order m w.counts x c s t none).counts

    ok_err : (i : Found V) (l : BookFault) → Ok i ≡ Err l → ⊥
    ok_err i l h = cc

    go : (z : Option BookFault) → Answers o (scene_in w x) s t table z k → OfferAnswers o (scene_in w x) mark c s t (path_in m y c) z (Ok q)
    go (Some h) b = absurd (ok_err found h (sym f ∙ b))
    go None b =
        let best = subst (λ i. Answers o (scene_in w x) s t table None i) f b in
        record {
          cheapest = subst (λ v. IsCheapest o (scene_in w x) s t (path_in m y c) v) (sym cost) (subst (λ p. IsCheapest o (scene_in w x) s t p found.cost) (ap (λ n. path_to n table found.end) (sym counts) ∙ sym path) best);
          steps = steps ∙ ap length (sym path);
          mark = its_mark;
          circuit = its_circuit;
        }

-- an offer that is not refused before the search is an order that is not
pub offer_in_order : (m n : Counts) (x : Tables) (c s t room : ℕ) → offer_refusal m n x c s t room ≡ None → InOrder m n x c s t
offer_in_order m n x c s t room e = in_order m n x c s t (first_of (order_refusal m n x c s t) (first (judge (nat_le (arrival_entries n) room) fault.WorkTable ∷ [])) (sym (room_only m n x c s t room) ∙ e))
  where
    first_of : (a b : Option BookFault) → option_or a b ≡ None → a ≡ None
    first_of None b e = refl
    first_of (Some f) b e = cc
