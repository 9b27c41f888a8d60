-- Every run of a book agrees with its account.
use Rattle.std.proofs.Common.{◌≡◌, ◌+◌, sum_by, ◌<◌, ℕ, true, false, List, [], ◌∷◌, None, Ok, Option, nat_lt, refl, sym, ap, ◌∙◌, subst, arith, ◌⊎◌, inl, inr}
use Rattle.std.proofs.lemmas.Bool.{cases_Bool, cond-true, cond-false, ltb-true}
use Rattle.network.specs.declared.counts.Counts.{Counts}
use Rattle.network.specs.declared.step.Step.{Step}
use Rattle.network.specs.Steps.{Within, on}
use Rattle.records.specs.declared.circuit.Circuit.TheVariants as circuit
use Rattle.records.specs.declared.circuit.Route.{Route}
use Rattle.records.specs.declared.state.SpanState.TheVariants as span
use Rattle.records.specs.Chains.{circuit_count, circuit_at, standing, route_of}
use Rattle.records.specs.Standing.{standing_of}
use Rattle.records.specs.Held.{held}
use Rattle.records.proofs.Held.{held_filled}
use Rattle.moment.specs.Usable.{is_open}
use Rattle.book.specs.declared.Book.{Book}
use Rattle.book.specs.Opening.{room, opened}
use Rattle.book.specs.State.{Tables, tables}
use Rattle.book.specs.Changes.{circuit_in, standing_in}
use Rattle.book.specs.Refusing.{is_lit}
use Rattle.book.proofs.Opened.{filled_at, roomy, opened_long, opened_sound}
use Rattle.book.proofs.Sounds.{Good, good}
use Rattle.account.specs.Events.{Event}
use Rattle.account.specs.Accounts.{account, lit_by, empty}
use Rattle.account.specs.Law.{channels_told, Ensured, Run, no_call, one_more, Agrees, Law}
use Rattle.account.proofs.Standing.{same_path}
use Rattle.account.proofs.Holding.{same_held}
use Rattle.account.proofs.Right.{call_right}
use Rattle.account.proofs.Made.{call_stands, call_opens, call_paths}
use Rattle.account.proofs.Lighting.{call_lit}
use Rattle.account.proofs.Ledger.{call_ledger}
use Rattle.account.proofs.Counting.{same_count}
use Rattle.account.proofs.Nones.{call_none}

-- one call more
called : (n : Counts) (mark : ℕ) (h : List Event) (x y : Tables) (e : Event) → Good n x → Good n y → Ensured n mark x e y → Agrees n mark h x → Agrees n mark (e ∷ h) y
called n mark h x y e old new call agrees =
    let stands = call_stands n mark x y (account h) agrees.stands e call in
    let paths = λ (c : ℕ). same_path n y (account (e ∷ h)) c (stands c) in
    let holds = λ (s : Step) (here : Within n s). same_held n y (account (e ∷ h)) new.sound.named paths s here in
    let counted = same_count n y.channels (account (e ∷ h)) new.wide holds in
    let is_right = call_right n mark x (account h) (lit_by h) agrees.stands agrees.opens agrees.holds agrees.lit old.spanned e y call in
    record {
      stands = stands;
      opens = call_opens n mark x y (account h) agrees.opens e call;
      lit = call_lit n mark x y (lit_by h) agrees.lit old e call;
      paths = call_paths n mark x y (account h) agrees.paths e call;
      named = λ c s here. new.sound.named c s here ∙ ap (on s) (paths c);
      holds = holds;
      ledger = call_ledger n mark x y old e h call (agrees.ledger ∙ ap (λ k. sum_by channels_told h + k) (sym agrees.counted)) ∙ ap (λ k. sum_by channels_told (e ∷ h) + k) counted;
      counted = counted;
      right = (is_right, call_none n mark (account h) (lit_by h) e is_right, agrees.right);
    }

-- no call yet: the book is as it was opened
uncalled : (n : Counts) (mark : ℕ) (t x : Tables) → room n t ≡ Ok tt → x ≡ opened n t → Agrees n mark [] x
uncalled n mark t x r e =
    let paths = λ (c : ℕ). same_path n x empty c (none c) in
    let holds = λ (s : Step) (here : Within n s). same_held n x empty (opened_sound n t x r e).named paths s here in
    let counted = same_count n x.channels empty (opened_long n t x r e).0 holds in
    record {
      stands = none;
      opens = λ i h. ap is_open (filled_at n.spans span.Open span.Open t.spans x.spans (roomy n t r).2 (ap (λ (z : Tables). z.spans) e) i h);
      lit = λ c h. ap is_lit (free c h);
      paths = λ c. tt;
      named = λ c s here. (opened_sound n t x r e).named c s here ∙ ap (on s) (paths c);
      holds = holds;
      ledger = let is = sym counted ∙ ap (λ (z : Tables). held n z.channels) e ∙ held_filled n t.channels in omega (arith, is);
      counted = counted;
      right = tt;
    }
  where
    free : (c : ℕ) → c < circuit_count → circuit_in x c ≡ circuit.Free
    free c h = filled_at circuit_count circuit.Free circuit.Free t.circuits x.circuits (roomy n t r).1 (ap (λ (z : Tables). z.circuits) e) c h

    none : (c : ℕ) → standing_in n x c ≡ None
    none c = go (cases_Bool (nat_lt c circuit_count))
      where
        there : Option Route
        there = standing (circuit_at x.circuits c)

        nothing : Option Route
        nothing = None

        go : (nat_lt c circuit_count ≡ true) ⊎ (nat_lt c circuit_count ≡ false) → standing_of n x.channels (route_of x.circuits c) ≡ None
        go (inl q) =
            ap (standing_of n x.channels) (cond-true (nat_lt c circuit_count) there nothing q
            ∙ ap standing (free c (ltb-true c circuit_count q)))
        go (inr q) = ap (standing_of n x.channels) (cond-false (nat_lt c circuit_count) there nothing q)

record Follows (start : Book) (h : List Event) (b : Book) : Type 0 where
  counts : b.extent.counts ≡ start.extent.counts
  mark : b.mark ≡ start.mark
  agrees : Agrees start.extent.counts start.mark h (tables b)

follows : (start : Book) → Agrees start.extent.counts start.mark [] (tables start) → (h : List Event) (b : Book) → Run start h b → Follows start h b
follows start first h b no_call = record { counts = refl; mark = refl; agrees = first }
follows start first (e ∷ h) b' (one_more {b = b} run leads) =
    let before = follows start first h b run in
    let n = start.extent.counts in
    let counts = leads.kept.counts ∙ before.counts in
    let call = subst (λ k. Ensured k start.mark (tables b) e (tables b')) before.counts (subst (λ m. Ensured b.extent.counts m (tables b) e (tables b')) before.mark leads.call) in
    record {
      counts = counts;
      mark = leads.kept.mark ∙ before.mark;
      agrees = called n start.mark h (tables b) (tables b') e (subst (λ k. Good k (tables b)) before.counts (good b)) (subst (λ k. Good k (tables b')) counts (good b')) call before.agrees;
    }

pub law_of_opened : (n : Counts) (mark : ℕ) (t : Tables) (b : Book) → room n t ≡ Ok tt → b.extent.counts ≡ n → tables b ≡ opened n t → Law b
law_of_opened n mark t b r counts e = λ h c run. (follows b (uncalled b.extent.counts b.mark t (tables b) (subst (λ k. room k t ≡ Ok tt) (sym counts) r) (e ∙ ap (λ k. opened k t) (sym counts))) h c run).agrees
