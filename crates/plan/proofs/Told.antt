-- The network that is made is the one that the plan tells.
use Rattle.std.proofs.Common.{◌≡◌, ℕ, List, map, take, ℤ, ap, ◌∙◌, arith}
use Rattle.std.proofs.lemmas.Bool.Decides.{nat_tests}
use Rattle.std.specs.List.{range_with_len}
use Rattle.network.specs.Net.{value}
use Rattle.network.specs.Spacings.{Spaced, code_of, spacing_by}
use Rattle.network.specs.Tables.{tabled}
use Rattle.network.specs.Tariffs.{span_entries, converter_entries}
use Rattle.network.specs.declared.counts.Counts.{Counts}
use Rattle.network.specs.declared.spacing.Spacing.{Spacing}
use Rattle.network.specs.declared.span.Span.{Span}
use Rattle.network.proofs.Filled.{take-tabled}
use Rattle.plan.specs.declared.record.Converter.{Converter}
use Rattle.plan.specs.declared.reader.Plan.{Plan}
use Rattle.plan.specs.Header.{counts_of}
use Rattle.plan.specs.Plan.{Read, read_by}
use Rattle.plan.specs.Records.{number_in, span_in, tariff_in, converter_in}
use Rattle.plan.specs.Telling.{listed, tells, tariff_table, converter_table}

-- the spacing of a code has that code
code_back : (c : ℕ) → Spaced c → code_of (spacing_by c) ≡ c
code_back c h = grind (arith, nat_tests)

-- and so has the network that a plan tells
pub code_is : (p : Read) → Spaced p.header.spacing → code_of (tells p).spacing ≡ p.header.spacing
unfolding tells
code_is p h = code_back p.header.spacing h

-- a table told of as many entries, counted otherwise
pub tabled_at : {A : Type 0} (m n : ℕ) (f : ℕ → A) (table old : List A) → m ≡ n → table ≡ tabled m f old → table ≡ tabled n f old
tabled_at m n f table old e told = told ∙ ap (λ (k : ℕ). tabled k f old) e

module _ (p : Plan) (n : Counts) (same : n ≡ counts_of p.header) (r : ℕ) (all : r ≡ p.header.converters) where
  abbrev number : ℕ → ℤ
  number = number_in p.numbers.bytes.now

  abbrev span : ℕ → Span
  span = span_in p.spans.bytes.now

  abbrev charge : ℕ → ℕ
  charge = tariff_in p.tariffs.bytes.now

  abbrev converter : ℕ → Converter
  converter = converter_in p.converters.bytes.now

  pub tariffs_are : (old : List ℕ) → tabled (span_entries n) charge old ≡ tariff_table (read_by p) old
  tariffs_are old = ap (λ (m : Counts). tabled (span_entries m) charge old) same

  pub converters_are : (old : List ℕ) → tabled (converter_entries n) (listed n converter r) old ≡ converter_table (read_by p) old
  converters_are old = λ k. tabled (converter_entries (same k)) (listed (same k) converter (all k)) old

  pub told_is : (s : Spacing) → s ≡ spacing_by p.header.spacing → (numbers old-numbers : List ℤ) (ends old-ends : List Span) (tariffs old-tariffs converters old-converters : List ℕ)
      → numbers ≡ tabled n.channels number old-numbers → ends ≡ tabled n.spans span old-ends
      → tariffs ≡ tabled (span_entries n) charge old-tariffs → converters ≡ tabled (converter_entries n) (listed n converter r) old-converters
      → value n s numbers ends tariffs converters ≡ tells (read_by p)
  unfolding tells
  told_is s spaced numbers on ends oe tariffs ot converters oc a b c d =
      let a' = ap (take n.channels) a ∙ take-tabled n.channels number on in
      let b' = ap (take n.spans) b ∙ take-tabled n.spans span oe in
      let c' = ap (take (span_entries n)) c ∙ take-tabled (span_entries n) charge ot in
      let d' = ap (take (converter_entries n)) d ∙ take-tabled (converter_entries n) (listed n converter r) oc in
      let made : value n s numbers ends tariffs converters ≡ record { counts = n; spacing = spacing_by p.header.spacing; numbers = map number (range_with_len 0 n.channels); ends = map span (range_with_len 0 n.spans); tariffs = map charge (range_with_len 0 (span_entries n)); converters = map (listed n converter r) (range_with_len 0 (converter_entries n)) }
      = λ k. record { counts = n; spacing = spaced k; numbers = a' k; ends = b' k; tariffs = c' k; converters = d' k } in
      made
      ∙ (λ k. record { counts = same k; spacing = spacing_by p.header.spacing; numbers = map number (range_with_len 0 (same k).channels); ends = map span (range_with_len 0 (same k).spans); tariffs = map charge (range_with_len 0 (span_entries (same k))); converters = map (listed (same k) converter (all k)) (range_with_len 0 (converter_entries (same k))) })
