-- How a book's tables fit together, and do so after a change.
use Rattle.std.proofs.Common.{[], ◌∷◌, refl, ◌≡◌, ℕ, ◌<◌, true, List, sym, ap, ◌∙◌, subst, ◌≢◌, ◌==◌, ◌⊎◌, inl, inr, cond, false, slice_set, ◌≤◌, length}
use Rattle.std.proofs.lemmas.List.{length-set}
use Rattle.std.proofs.lemmas.Bool.Decides.{eqb_tells}
use Rattle.network.specs.declared.counts.Counts.{Counts}
use Rattle.network.specs.Tariffs.{span_entries}
use Rattle.network.specs.declared.step.Step.{Step}
use Rattle.records.specs.declared.circuit.Circuit.TheVariants as circuit
use Rattle.records.specs.declared.circuit.Route.{Route}
use Rattle.records.specs.Changes.{but}
use Rattle.records.proofs.Taken.{length-taken, length-given_back}
use Rattle.records.proofs.Kept.{taken_sound, taken_path, taken_stands, given_sound, given_stands, lit_sound, lit_stands}
use Rattle.moment.specs.Usable.{span_is_open}
use Rattle.book.specs.State.{Tables, tables, lent}
use Rattle.book.specs.Changes.{takes, lights, frees, lit, changed, circuit_in, path_in, standing_in, Makes}
use Rattle.records.specs.declared.circuit.Circuit.{Circuit}
use Rattle.book.specs.Refusing.{is_offered}
use Rattle.book.specs.Taking.{CanTake}
use Rattle.records.specs.Chains.{circuit_count}
use Rattle.records.specs.Sound.{Sound}
use Rattle.book.specs.declared.Book.{Book}

-- the tables are long enough, and fit together
pub record Good (n : Counts) (x : Tables) : Type 0 where
  pub wide : span_entries n ≤ length x.channels
  pub rows : circuit_count ≤ length x.circuits
  pub spanned : n.spans ≤ length x.spans
  pub sound : Sound n x.channels x.circuits

pub good : (b : Book) → Good b.extent.counts (tables b)
good b = record { wide = b.wide; rows = b.rows; spanned = b.spanned; sound = record { within = b.within; apart = b.apart; whole = b.whole; named = b.named } }

-- a path is taken
module _ (n : Counts) (x y : Tables) (c s t : ℕ) (p : List Step) (old : Good n x) (can : CanTake n x c p) (e : y ≡ changed n (takes c s t p) x) where
  pub taken_good : Good n y
  taken_good = subst (Good n) (sym e) (record {
    wide = subst (λ l. span_entries n ≤ l) (sym (length-taken n c p x.channels)) old.wide;
    rows = subst (λ l. circuit_count ≤ l) (sym (length-set x.circuits c _)) old.rows;
    spanned = old.spanned;
    sound = taken_sound n x.channels x.circuits c s t p old.sound can.known old.rows old.wide can.free can.some can.short can.within can.once can.unheld;
  })

  pub taken_makes : Makes n (takes c s t p ∷ []) x y
  taken_makes = record {
    tables = e;
    stands = λ d. ap (λ z. standing_in n z d) e ∙ taken_stands n x.channels x.circuits c s t p old.sound can.known old.rows old.wide can.free can.some can.short can.within can.once can.unheld d;
    opens = λ i. ap (λ z. span_is_open z.spans i) e;
  }

  pub taken_path_in : path_in n y c ≡ p
  taken_path_in = ap (λ z. path_in n z c) e ∙ taken_path n x.channels x.circuits c s t p old.sound can.known old.rows old.wide can.free can.some can.short can.within can.once can.unheld

-- a circuit is freed
module _ (n : Counts) (x y : Tables) (c : ℕ) (old : Good n x) (h : c < circuit_count) (e : y ≡ changed n (frees c) x) where
  pub freed_good : Good n y
  freed_good = subst (Good n) (sym e) (record {
    wide = subst (λ l. span_entries n ≤ l) (sym (length-given_back n (path_in n x c) x.channels)) old.wide;
    rows = subst (λ l. circuit_count ≤ l) (sym (length-set x.circuits c _)) old.rows;
    spanned = old.spanned;
    sound = given_sound n x.channels x.circuits c old.sound h old.rows old.wide;
  })

  pub freed_makes : Makes n (frees c ∷ []) x y
  freed_makes = record { tables = e; stands = λ d. ap (λ z. standing_in n z d) e ∙ given_stands n x.channels x.circuits c old.sound h old.rows old.wide d; opens = λ i. ap (λ z. span_is_open z.spans i) e }

-- an offered circuit is lit
module _ (n : Counts) (x y : Tables) (c : ℕ) (r : Route) (old : Good n x) (h : c < circuit_count) (offered : circuit_in x c ≡ circuit.Offered r) (e : y ≡ changed n (lights c) x) where
  lit_is : y ≡ lent x.channels (slice_set x.circuits c (circuit.Lit r)) x.spans
  lit_is = e ∙ ap (λ k. lent x.channels (slice_set x.circuits c (lit k)) x.spans) offered

  pub lit_good : Good n y
  lit_good = subst (Good n) (sym lit_is) (record {
    wide = old.wide;
    rows = subst (λ l. circuit_count ≤ l) (sym (length-set x.circuits c _)) old.rows;
    spanned = old.spanned;
    sound = lit_sound n x.channels x.circuits c r old.sound h old.rows offered;
  })

  pub lit_makes : Makes n (lights c ∷ []) x y
  lit_makes = record {
    tables = e;
    stands = λ d. ap (λ z. standing_in n z d) lit_is ∙ lit_stands n x.channels x.circuits c r old.sound h old.rows offered d ∙ as_before d;
    opens = λ i. ap (λ z. span_is_open z.spans i) e;
  }
    where
      as_before : (d : ℕ) → but c (standing_in n x c) (standing_in n x) d ≡ standing_in n x d
      as_before d = go (eqb_tells d c)
        where
          go : ((d == c ≡ true) × (d ≡ c)) ⊎ ((d == c ≡ false) × (d ≢ c)) → but c (standing_in n x c) (standing_in n x) d ≡ standing_in n x d
          go (inl q) = ap (λ b. cond b (standing_in n x c) (standing_in n x d)) q.0 ∙ ap (standing_in n x) (sym q.1)
          go (inr q) = ap (λ b. cond b (standing_in n x c) (standing_in n x d)) q.0

-- the route of an offered circuit
pub offered_is : (k : Circuit) → is_offered k ≡ true → (r : Route) × (k ≡ circuit.Offered r)
offered_is circuit.Free e = cc
offered_is (circuit.Offered r) e = (r, refl)
offered_is (circuit.Lit r) e = cc
