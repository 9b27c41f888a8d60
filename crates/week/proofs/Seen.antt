-- By the law, what is given back at the end of a week is what was seen at its begin.
use Rattle.std.proofs.Common.{◌≡◌, ◌≢◌, ℕ, ◌==◌, Bool, true, false, cond, List, [], ◌∷◌, ◌++◌, length, Some, None, Ok, Err, Option, Result, IfOk, IfSome, refl, sym, ap, subst, ◌∙◌, ◌⊎◌, inl, inr}
use Rattle.std.proofs.lemmas.Bool.{cond-false}
use Rattle.std.proofs.lemmas.Bool.Decides.{eqb_tells}
use Rattle.std.proofs.lemmas.List.{append_assoc}
use Rattle.std.specs.Option.{option_map}
use Rattle.fault.specs.Judging.{unless}
use Rattle.fault.specs.declared.book.BookFault.{BookFault}
use Rattle.network.specs.declared.counts.Counts.{Counts}
use Rattle.network.specs.Net.{Net}
use Rattle.cost.specs.Numbers.{in_numbers}
use Rattle.cost.specs.Numberings.{fee_numbers, tariff_numbers}
use Rattle.cost.specs.Sums.{sum_ops}
use Rattle.cost.specs.Worsts.{worst_ops}
use Rattle.slip.specs.declared.setting.Setting.{Setting}
use Rattle.book.specs.Refusing.{look_refusal}
use Rattle.book.specs.Numbered.{cost_in_numbers}
use Rattle.account.specs.Events.{Asked, Event, offers, withdraws, shuts, tries, slips, looks, reckons}
use Rattle.account.specs.Accounts.{Entry, Account, account, after_call, lit_by, with_entry, path_in_entry, scene_by}
use Rattle.account.specs.Due.{offer_due, darken_due}
use Rattle.account.specs.Law.{AllRight, status_by}
use Rattle.account.specs.Going.{asked, Is, Then}
use Rattle.account.proofs.Made.{accepted_offer}
use Rattle.week.specs.Weeks.{Settled, is_refused, is_settled, Week, GivesBackSeen}
use Rattle.week.specs.declared.told.Told.{Told}
use Rattle.week.specs.declared.trip.Trip.{Trip}

-- another circuit's entry stays
other_entry : (c d : ℕ) (z : Option Entry) (a : Account) → d ≢ c → (with_entry c z a).entry d ≡ a.entry d
other_entry c d z a other = go (eqb_tells d c)
  where
    go : ((d == c ≡ true) × (d ≡ c)) ⊎ ((d == c ≡ false) × (d ≢ c)) → cond (d == c) z (a.entry d) ≡ a.entry d
    go (inl q) = absurd (other q.1)
    go (inr q) = cond-false (d == c) z (a.entry d) q.0

-- shutting a span leaves every entry
shut_entry : (e : ℕ) (r : Result (Unit {0}) BookFault) (a : Account) (d : ℕ) → (after_call (shuts e r) a).entry d ≡ a.entry d
shut_entry e (Ok u) a d = refl
shut_entry e (Err f) a d = refl

module _ (n : Counts) (mark : ℕ) where
  -- what was right is right of the calls before
  earlier : (k h : List Event) → AllRight n mark (k ++ h) → AllRight n mark h
  earlier [] h right = right
  earlier (e ∷ k) h right = earlier k h right.2

  -- an offer that is withdrawn at once leaves the entries of others
  doubted_entry : (q : Asked) (c d : ℕ) (r : Result ℕ BookFault) (k h : List Event) → d ≢ c → Settled (λ o u. withdraws o u) q c r k → AllRight n mark (k ++ h) → (account (k ++ h)).entry d ≡ (account h).entry d
  doubted_entry q c d r k h other (is_refused p f e whole) right = ap (λ (l : List Event). (account (l ++ h)).entry d) whole
  doubted_entry q c d r k h other (is_settled p v i e whole) right =
      let right' = subst (λ (l : List Event). AllRight n mark (l ++ h)) whole right in
      let its = accepted_offer q.kind (scene_by q.net (account h)) mark c q.from q.to p (offer_due n (account h) q c) v right'.2.0 in
      ap (λ (l : List Event). (account (l ++ h)).entry d) whole
      ∙ ap (λ i. (with_entry i None (account (offers q c p (Ok v) ∷ h))).entry d) its.circuit
      ∙ other_entry c d None (account (offers q c p (Ok v) ∷ h)) other
      ∙ other_entry c d _ (account h) other

  -- calls, and then calls, after others
  begun : (P Q : List Event → Type 0) (C : Type 0) (h k : List Event) → Then P Q k → AllRight n mark (k ++ h) → ((first rest : List Event) → P first → Q rest → AllRight n mark (rest ++ (first ++ h)) → C) → C
  begun P Q C h k t right go =
      go t.first t.rest t.begins t.goes_on
      (subst (AllRight n mark) (append_assoc t.rest t.first h) (subst (λ (l : List Event). AllRight n mark (l ++ h)) t.whole right))

  begun_by : (e : Event) (Q : List Event → Type 0) (C : Type 0) (h k : List Event) → Then (Is e) Q k → AllRight n mark (k ++ h) → ((rest : List Event) → Q rest → AllRight n mark (rest ++ (e ∷ h)) → C) → C
  begun_by e Q C h k t right go =
      begun (Is e) Q C h k t right (λ first rest one more right. go rest more (subst (λ (l : List Event). AllRight n mark (rest ++ (l ++ h))) one right))

-- what is told of an entry, and what its darkening gives back
seen_steps : (z : Option Entry) (lit : Bool) (due due' : Option BookFault) → IfOk (unless due (option_map (status_by lit) (option_map (λ (e : Entry). e.standing) z))) (λ v. IfSome v (λ s. IfOk (unless due' (length (path_in_entry z))) (λ k. k ≡ s.steps)))
seen_steps z lit (Some f) due' = tt
seen_steps None lit None due' = tt
seen_steps (Some z) lit None (Some f) = tt
seen_steps (Some z) lit None None = refl

-- what was seen is given back
pub gives_back_seen : (n : Counts) (mark : ℕ) (w : Net) (q : Trip) (few sum : ℕ) (before after : List Setting) (a : Told) (h : List Event) → AllRight n mark h → Week w q few sum before after a h → GivesBackSeen q a
gives_back_seen n mark w q few sum before after a h right week other =
    begun_by n mark _ _ _ lit _ week.goes_on (subst (AllRight n mark) week.whole right) (λ h1 week1 right1.
    let seen = (earlier n mark h1 (looks q.circuit a.seen ∷ lit) right1).0 in
    begun_by n mark _ _ _ _ h1 week1 right1 (λ h2 week2 right2.
    begun_by n mark _ _ _ _ h2 week2 right2 (λ h3 week3 right3.
    begun_by n mark _ _ _ _ h3 week3 right3 (λ h4 week4 right4.
    begun_by n mark _ _ _ _ h4 week4 right4 (λ h5 week5 right5.
    begun n mark _ _ _ _ h5 week5 right5 (λ doubts h6 doubted dark right6.
    let between : List Event = reckons w (in_numbers tariff_numbers worst_ops) q.circuit (cost_in_numbers tariff_numbers a.worst) ∷ shuts q.span a.shut ∷ tries (asked fee_numbers sum_ops w q.from q.to sum) q.span (cost_in_numbers fee_numbers a.without) ∷ slips w q.circuit before a.written after ∷ looks q.circuit a.seen ∷ lit in
    let right7 = subst (λ (l : List Event). AllRight n mark (l ++ (doubts ++ between))) dark right6 in
    let same = doubted_entry n mark _ q.other q.circuit a.given_back doubts between (λ e. other (sym e)) doubted right7.2 ∙ shut_entry q.span a.shut (account lit) q.circuit in
    let z = (account lit).entry q.circuit in
    let due = darken_due (lit_by (doubts ++ between)) q.circuit in
    let back = right7.0 ∙ ap (λ y. unless due (length (path_in_entry y))) same in
    subst (λ r. IfOk r (λ v. IfSome v (λ s. IfOk a.darkened (λ k. k ≡ s.steps)))) (sym seen)
    (subst (λ d. IfOk (unless (look_refusal q.circuit) (option_map (status_by (lit_by lit q.circuit)) (option_map (λ (e : Entry). e.standing) z))) (λ v. IfSome v (λ s. IfOk d (λ k. k ≡ s.steps)))) (sym back)
    (seen_steps z (lit_by lit q.circuit) (look_refusal q.circuit) due))))))))
  where
    lit : List Event
    lit = week.first
