-- What an accepted plan owes to the limits of a network.
use Rattle.std.proofs.Common.{◌≡◌, ℕ, zero, suc, ◌+◌, ◌*◌, ◌/◌, ◌%◌, ◌<◌, ◌≤◌, true, List, length, get_or, take, ℤ, pos, None, Option, sym, refl, ap, ◌∙◌, subst, add-one, arith}
use lib.Arith.{digits_div, digits_mod}
use lib.Signed.{lt_z}
use Rattle.std.proofs.lemmas.Bool.Decides.{nat_tests}
use Rattle.std.proofs.lemmas.Bool.{and_parts}
use Rattle.fault.specs.Judging.{first}
use Rattle.fault.proofs.Judged.{each_sound}
use Rattle.network.specs.Extents.{Counted}
use Rattle.network.specs.Spacings.{Spaced}
use Rattle.network.specs.Limits.{Ranged, Rising, Joined, Few, Proper, in_range, number_at, span_at, no_span}
use Rattle.network.specs.Tables.{tabled}
use Rattle.network.specs.Tariffs.{absent, present, span_entries, converter_entries, converter_entry}
use Rattle.network.specs.declared.counts.Counts.{Counts}
use Rattle.network.specs.declared.span.Span.{Span}
use Rattle.network.proofs.Entries.{converter_entry_lem}
use Rattle.network.proofs.Filled.{take-tabled, get_or-tabled}
use Rattle.plan.specs.declared.header.Header.{Header}
use Rattle.plan.specs.declared.reader.Plan.{Plan}
use Rattle.plan.specs.declared.record.Converter.{Converter}
use Rattle.plan.specs.Header.{header, header_faults, counts_of}
use Rattle.plan.specs.Kept.{Told, Accepted}
use Rattle.plan.specs.Plan.{file_faults}
use Rattle.plan.specs.Records.{number_in, span_in, converter_in, previous, after, before, number_row, span_row, converter_row, number_faults, span_faults, converter_faults}
use Rattle.plan.specs.Telling.{place, Stands, listed}
use Rattle.plan.proofs.Heads.{headed}
use Rattle.plan.proofs.Marks.{present_listed}
use Rattle.plan.proofs.Parts.{count_is}
use Rattle.plan.proofs.Firsts.{first_section, rows_are, first_row, first_in_file, first_of_load}

-- the limits that the header keeps, and the records without a fault
pub record Owed (p : Plan) (n : Counts) (tariffs converters : ℕ) : Type 0 where
  pub counted : Counted n
  pub spaced : Spaced p.header.spacing
  pub few : p.header.converters ≤ 4096
  pub room : (span_entries n ≤ tariffs) × (converter_entries n ≤ converters)
  pub numbers : first (number_faults n.channels p.numbers.start p.numbers.bytes.now) ≡ None
  pub spans : first (span_faults n p.spans.start p.spans.bytes.now) ≡ None
  pub many_numbers : length p.numbers.bytes.now / 2 ≡ n.channels
  pub many_spans : length p.spans.bytes.now / 2 ≡ n.spans
  pub many_tariffs : length p.tariffs.bytes.now / 2 ≡ span_entries n
  pub many_converters : length p.converters.bytes.now / 5 ≡ p.header.converters
  pub turns : first (converter_faults n p.header.converters p.converters.start p.converters.bytes.now) ≡ None

-- what a sound converter keeps
pub record IsProper (n : Counts) (last : Option Converter) (c : Converter) : Type 0 where
  pub node : c.node < n.nodes
  pub from : c.from < n.channels
  pub to : c.to < n.channels
  pub changes : c.from ≡ c.to → ⊥
  pub charged : c.tariff < absent
  pub rises : after before last c ≡ true

-- an entry tells its node and its channels
pub same_place : (n : Counts) (c : Converter) (u a b : ℕ) → c.from < n.channels → c.to < n.channels → a < n.channels → b < n.channels → place n c ≡ converter_entry n u a b
    → (c.node ≡ u) × (c.from ≡ a) × (c.to ≡ b)
same_place n c u a b hf ht ha hb e =
    let k = n.channels in
    let rows : c.node * k + c.from ≡ u * k + a = sym (digits_div (c.node * k + c.from) ht) ∙ ap (λ x. x / k) e ∙ digits_div (u * k + a) hb in (
      sym (digits_div c.node hf) ∙ ap (λ x. x / k) rows ∙ digits_div u ha,
      sym (digits_mod c.node hf) ∙ ap (λ x. x % k) rows ∙ digits_mod u ha,
      sym (digits_mod (c.node * k + c.from) ht) ∙ ap (λ x. x % k) e ∙ digits_mod (u * k + a) hb,
    )

-- a plan whose file is sound tells counts within the limits
pub counted : (p : Plan) (bs : List ℕ) → Told bs (header bs) p → first (file_faults bs) ≡ None → Counted (counts_of p.header)
counted p bs t e =
    let file = first_in_file bs in
    let head : first (header_faults bs) ≡ None = grind arith in
    subst (λ (x : Header). Counted (counts_of x)) (sym t.header) (headed bs head).counted

pub owed : (p : Plan) (bs : List ℕ) (tariffs converters : ℕ) → Accepted p bs tariffs converters → Owed p (counts_of p.header) tariffs converters
owed p bs tariffs converters a =
    let load = first_of_load bs tariffs converters in
    let file = first_in_file bs in
    let section = first_section bs (header bs) in
    let row = first_row p in
    let same = ap first (rows_are bs (header bs) p a.told) in
    let sound = a.sound in
    let head : first (header_faults bs) ≡ None = grind arith in
    let h = headed bs head in
    let back = sym a.told.header in
    record {
      counted = subst (λ (x : Header). Counted (counts_of x)) back h.counted;
      spaced = subst (λ (x : Header). Spaced x.spacing) back h.spaced;
      few = subst (λ (x : Header). x.converters ≤ 4096) back h.few;
      room = subst (λ (x : Header). (span_entries (counts_of x) ≤ tariffs) × (converter_entries (counts_of x) ≤ converters)) back (grind (arith, nat_tests), grind (arith, nat_tests));
      numbers = grind arith;
      spans = grind arith;
      many_numbers = count_is 2 _ p.numbers.bytes.now (omega arith) a.fitted.numbers.long;
      many_spans = count_is 2 _ p.spans.bytes.now (omega arith) a.fitted.spans.long;
      many_tariffs = count_is 2 _ p.tariffs.bytes.now (omega arith) a.fitted.tariffs.long;
      many_converters = count_is 5 _ p.converters.bytes.now (omega arith) a.fitted.converters.long;
      turns = grind arith;
    }

-- the same, at counts that are those of the header
pub owed_at : (p : Plan) (n : Counts) (bs : List ℕ) (tariffs converters : ℕ) → n ≡ counts_of p.header → Accepted p bs tariffs converters → Owed p n tariffs converters
owed_at p n bs tariffs converters same a = subst (λ (m : Counts). Owed p m tariffs converters) (sym same) (owed p bs tariffs converters a)

module _ (p : Plan) (n : Counts) (tariffs converters : ℕ) (o : Owed p n tariffs converters) where
  abbrev number : ℕ → ℤ
  number = number_in p.numbers.bytes.now

  abbrev span : ℕ → Span
  span = span_in p.spans.bytes.now

  abbrev converter : ℕ → Converter
  converter = converter_in p.converters.bytes.now

  sound_number_lem : (c : ℕ) → c < n.channels → (in_range (number c) ≡ true) × (after lt_z (previous number c) (number c) ≡ true)
  sound_number_lem c h = and_parts _ _ (each_sound (number_row p.numbers.start p.numbers.bytes.now) n.channels c o.numbers h)

  module _ (numbers : List ℤ) (old : List ℤ) (told : numbers ≡ tabled n.channels number old) where
    number_at_lem : (c : ℕ) → c < n.channels → number_at numbers c ≡ number c
    number_at_lem c h = ap (λ xs. number_at xs c) told ∙ get_or-tabled n.channels number old c (pos 0) h

    pub ranged : Ranged n numbers
    ranged c h = ap in_range (number_at_lem c h) ∙ (sound_number_lem c h).0

    pub rising : Rising n numbers
    rising c h =
        (λ k. lt_z (number_at_lem c (omega arith) k) (number_at_lem (c + 1) h k))
        ∙ ap (λ i. after lt_z (previous number i) (number (c + 1))) (sym (add-one c))
        ∙ (sound_number_lem (c + 1) h).1

  module _ (ends : List Span) (old : List Span) (told : ends ≡ tabled n.spans span old) where
    pub joined : Joined n ends
    joined e h =
        let is : span_at ends e ≡ span e = ap (λ xs. span_at xs e) told ∙ get_or-tabled n.spans span old e no_span h in
        let s = each_sound (span_row n p.spans.start p.spans.bytes.now) n.spans e o.spans h in
        subst (λ (x : Span). (x.tail < n.nodes) × (x.head < n.nodes) × (x.tail ≡ x.head → ⊥)) (sym is) (grind (arith, nat_tests), grind (arith, nat_tests), grind (arith, nat_tests))

  -- a converter is at a node, changes one channel into another, has a tariff, and they rise
  pub proper_converter : (i : ℕ) → i < p.header.converters → IsProper n (previous converter i) (converter i)
  proper_converter i h =
      let e = each_sound (converter_row n p.converters.start p.converters.bytes.now) p.header.converters i o.turns h in
      record {
        node = grind (arith, nat_tests);
        from = grind (arith, nat_tests);
        to = grind (arith, nat_tests);
        changes = grind (arith, nat_tests);
        charged = grind (arith, nat_tests);
        rises = grind (arith, nat_tests);
      }

  pub standing : (i : ℕ) → i < p.header.converters → Stands n (converter i)
  standing i h = let s = proper_converter i h in record { node = s.node; from = s.from; to = s.to }

  -- no converter has the entry that would change a channel into itself
  not_same : (i u c : ℕ) → i < p.header.converters → c < n.channels → place n (converter i) ≡ converter_entry n u c c → ⊥
  not_same i u c h hc e =
      let s = proper_converter i h in
      let q = same_place n (converter i) u c c s.from s.to hc hc e in
      s.changes (q.1 ∙ sym q.2)

  listed_none : (r e : ℕ) → r ≤ p.header.converters → ((i : ℕ) → i < r → place n (converter i) ≡ e → ⊥) → listed n converter r e ≡ absent
  listed_none zero e h none = refl
  listed_none (suc r) e h none = let before = listed_none r e in let other = none r in grind (arith, nat_tests)

  module _ (table old : List ℕ) (told : table ≡ tabled (converter_entries n) (listed n converter p.header.converters) old) where
    pub few_converters : Few n table
    few_converters =
        let is = ap (λ xs. present (take (converter_entries n) xs)) told ∙ ap present (take-tabled (converter_entries n) (listed n converter p.header.converters) old) in
        omega (arith, is, present_listed n converter p.header.converters 0 (converter_entries n), o.few)

    pub proper_converters : Proper n table
    proper_converters u c h =
        ap (λ xs. get_or xs (converter_entry n u c c) absent) told
        ∙ get_or-tabled (converter_entries n) (listed n converter p.header.converters) old (converter_entry n u c c) absent (converter_entry_lem n u c c h.0 h.1 h.1)
        ∙ listed_none p.header.converters (converter_entry n u c c) (omega arith) (λ i l. not_same i u c l h.1)
