-- The converters that a plan lists are those that its network has.
use Rattle.std.proofs.Common.{◌≡◌, ℕ, zero, suc, ◌+◌, ◌*◌, ◌<◌, ◌≤◌, Bool, true, false, cond, ◌&&◌, eqb, ltb, ◌⊎◌, Some, None, Option, sym, refl, ap, ◌∙◌, subst, inl, inr, ⊎_elim, arith}
use lib.Arith.{digits_lt}
use Rattle.std.proofs.lemmas.Bool.Decides.{nat_tests}
use Rattle.std.proofs.lemmas.List.FromFn.{get_or-map-range_with_len}
use Rattle.std.proofs.lemmas.Bool.{cases_Bool, and_from, cond-true, cond-false, eqb-true, lt-ltb}
use Rattle.network.specs.Net.{Net, converter_of}
use Rattle.network.specs.Tariffs.{absent, tariff, converter_entries, converter_entry}
use Rattle.network.specs.declared.counts.Counts.{Counts}
use Rattle.network.proofs.Entries.{converter_entry_lem}
use Rattle.plan.specs.declared.record.Converter.{Converter}
use Rattle.plan.specs.declared.reader.Plan.{Plan}
use Rattle.plan.specs.Faithful.{Faithful, converter}
use Rattle.plan.specs.Header.{counts_of}
use Rattle.plan.specs.Plan.{read_by}
use Rattle.plan.specs.Records.{converter_in, before}
use Rattle.plan.specs.Telling.{place, listed, tells}
use Rattle.plan.proofs.Owed.{Owed, proper_converter, same_place}

-- an entry further on in an earlier row lies before one in a later row
row_lt : (q r c d k : ℕ) → q < r → c < k → q * k + c < r * k + d
row_lt q r c d k h l = omega (arith, digits_lt h l)

-- converters that rise have entries that rise
module _ (n : Counts) (a b : Converter) (hf : a.from < n.channels) (ht : a.to < n.channels) where
  abbrev row : Converter → ℕ
  row c = c.node * n.channels + c.from

  by_row : row a < row b → place n a < place n b
  by_row h = row_lt (row a) (row b) a.to b.to n.channels h ht

  by_node : a.node < b.node → place n a < place n b
  by_node h = by_row (row_lt a.node b.node a.from b.from n.channels h hf)

  by_from : a.node ≡ b.node → a.from < b.from → place n a < place n b
  by_from e h = let same : a.node * n.channels ≡ b.node * n.channels = ap (λ x. x * n.channels) e in by_row (omega (arith, same, h))

  by_to : a.node ≡ b.node → a.from ≡ b.from → a.to < b.to → place n a < place n b
  by_to e f h = let same : row a * n.channels ≡ row b * n.channels = λ k. (e k * n.channels + f k) * n.channels in omega (arith, same, h)

  rises : before a b ≡ true → place n a < place n b
  rises e = grind (arith, nat_tests, by_node, by_from, by_to)

-- what an entry holds that some converter has
abbrev Held : Counts → (ℕ → Converter) → ℕ → ℕ → Type 0
Held n f r e = (i : ℕ) × (i < r) × (place n (f i) ≡ e) × ((f i).tariff ≡ listed n f r e)

listed_by : (n : Counts) (f : ℕ → Converter) (r e : ℕ) → (listed n f r e ≡ absent) ⊎ Held n f r e
listed_by n f zero e = inl refl
listed_by n f (suc r) e =
    ⊎_elim
    (λ (h : eqb (place n (f r)) e ≡ true). inr (r, omega arith, eqb-true _ _ h, sym (cond-true _ _ _ h)))
    (λ (h : eqb (place n (f r)) e ≡ false).
    let same : listed n f (suc r) e ≡ listed n f r e = cond-false _ _ _ h in
    ⊎_elim
    (λ (x : listed n f r e ≡ absent). inl (same ∙ x))
    (λ (x : Held n f r e). inr (x.0, omega (arith, x.1), x.2, x.3 ∙ sym same))
    (listed_by n f r e))
    (cases_Bool (eqb (place n (f r)) e))

-- what a charge tells of its entry
some_is : (v t : ℕ) → tariff v ≡ Some t → (v ≡ absent → ⊥) × (v ≡ t)
some_is v t e = (grind (arith, nat_tests), grind (arith, nat_tests))

tariff_some : (v : ℕ) → v < absent → tariff v ≡ Some v
tariff_some v h = grind (arith, nat_tests)

cond_some : (b : Bool) (x : Option ℕ) (t : ℕ) → cond b x None ≡ Some t → b ≡ true
cond_some true x t e = refl
cond_some false x t e = cc

module _ (p : Plan) (tariffs converters : ℕ) (o : Owed p (counts_of p.header) tariffs converters) where
  abbrev n : Counts
  n = counts_of p.header

  abbrev at : ℕ → Converter
  at = converter_in p.converters.bytes.now

  abbrev count : ℕ
  count = p.header.converters

  step : (i : ℕ) → suc i < count → place n (at i) < place n (at (suc i))
  step i h =
      let s = proper_converter p n tariffs converters o i (omega arith) in
      rises n (at i) (at (suc i)) s.from s.to (proper_converter p n tariffs converters o (suc i) h).rises

  chain : (i j : ℕ) → i < j → j < count → place n (at i) < place n (at j)
  chain i zero h l = absurd (omega arith)
  chain i (suc j) h l = let before = chain i j in let next = step j l in grind arith

  -- the entry of a converter holds its tariff
  there : (r i : ℕ) → r ≤ count → i < r → listed n at r (place n (at i)) ≡ (at i).tariff
  there zero i h l = absurd (omega arith)
  there (suc r) i h l = let before = there r i in let further = chain i r in grind (arith, nat_tests)

  has : (u a b : ℕ) → u < n.nodes → a < n.channels → b < n.channels → converter_of (tells (read_by p)) u a b ≡ tariff (listed n at count (converter_entry n u a b))
  unfolding tells
  has u a b hu ha hb =
      cond-true _ _ _ (and_from _ _ (lt-ltb u n.nodes hu) (and_from _ _ (lt-ltb a n.channels ha) (lt-ltb b n.channels hb)))
      ∙ ap tariff (get_or-map-range_with_len (listed n at count) 0 (converter_entries n) (converter_entry n u a b) (converter_entry n u a b) absent (converter_entry_lem n u a b hu ha hb) (omega arith))

  within : (u a b t : ℕ) → converter_of (tells (read_by p)) u a b ≡ Some t → (u < n.nodes) × (a < n.channels) × (b < n.channels)
  unfolding tells
  within u a b t e =
      let inside = cond_some (ltb u n.nodes && (ltb a n.channels && ltb b n.channels)) _ t e in
      (grind (arith, nat_tests), grind (arith, nat_tests), grind (arith, nat_tests))

  each : (i : ℕ) → i < count → converter_of (tells (read_by p)) (at i).node (at i).from (at i).to ≡ Some (at i).tariff
  each i h =
      let s = proper_converter p n tariffs converters o i h in
      has (at i).node (at i).from (at i).to s.node s.from s.to ∙ ap tariff (there count i (omega arith) h) ∙ tariff_some (at i).tariff s.charged

  only : (u a b t : ℕ) → converter_of (tells (read_by p)) u a b ≡ Some t → (i : ℕ) × (i < count) × (at i ≡ converter u a b t)
  only u a b t e =
      let w = within u a b t e in
      let v = some_is (listed n at count (converter_entry n u a b)) t (sym (has u a b w.0 w.1 w.2) ∙ e) in
      ⊎_elim
      (λ (none : listed n at count (converter_entry n u a b) ≡ absent). absurd (v.0 none))
      (λ (x : Held n at count (converter_entry n u a b)).
      let s = proper_converter p n tariffs converters o x.0 x.1 in
      let q = same_place n (at x.0) u a b s.from s.to w.1 w.2 x.2 in
      let charge = x.3 ∙ v.1 in
      (x.0, x.1, λ k. record { node = q.0 k; from = q.1 k; to = q.2 k; tariff = charge k }))
      (listed_by n at count (converter_entry n u a b))

  pub faithful : (w : Net) → w ≡ tells (read_by p) → Faithful (read_by p) w
  faithful w is =
      subst (λ (x : Net). Faithful (read_by p) x) (sym is)
      (record {
        all = λ i u a b t h e. subst (λ (c : Converter). converter_of (tells (read_by p)) c.node c.from c.to ≡ Some c.tariff) e (each i h);
        only = only;
      })
