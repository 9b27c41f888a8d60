-- The first fault of each layer, by those of its parts.
use Rattle.std.proofs.Common.{◌≡◌, ℕ, List, [], ◌∷◌, ◌++◌, ap, ◌∙◌}
use Rattle.std.specs.Option.{option_map, option_or}
use Rattle.fault.specs.Judging.{Judgement, judge, first, inside}
use Rattle.fault.specs.declared.book.BookFault.TheVariants.{LoadTable}
use Rattle.fault.specs.declared.plan.FileFault.TheVariants.{Section}
use Rattle.fault.specs.declared.plan.LoadFault.{LoadFault}
use Rattle.fault.specs.declared.plan.LoadFault.TheVariants.{File, Book}
use Rattle.fault.specs.declared.plan.RecordFault.{RecordFault}
use Rattle.fault.specs.declared.plan.SectionFault.{SectionFault}
use Rattle.fault.specs.declared.plan.SectionFault.TheVariants.{Record}
use Rattle.fault.proofs.Judged.{first-append, first-inside}
use Rattle.plan.specs.declared.header.Header.{Header}
use Rattle.plan.specs.declared.reader.Plan.{Plan}
use Rattle.plan.specs.Header.{header, header_faults, counts_of}
use Rattle.plan.specs.Kept.{Told, rows_of}
use Rattle.plan.specs.Plan.{rows, pairs_faults, record_faults, section_faults, file_faults, load_faults, roomy}
use Rattle.plan.specs.Records.{number_faults, span_faults, converter_faults}
use Rattle.plan.specs.Sections.{end, numbers_pair, spans_pair, tariffs_pair, converters_pair, numbers_size, spans_size, tariffs_size, converters_size, pair_faults}

module _ (bs : List ℕ) (h : Header) where
  abbrev one : List (Judgement SectionFault)
  one = pair_faults bs numbers_pair 40 (numbers_size h)

  abbrev two : List (Judgement SectionFault)
  two = pair_faults bs spans_pair (end bs numbers_pair) (spans_size h)

  abbrev three : List (Judgement SectionFault)
  three = pair_faults bs tariffs_pair (end bs spans_pair) (tariffs_size h)

  abbrev four : List (Judgement SectionFault)
  four = pair_faults bs converters_pair (end bs tariffs_pair) (converters_size h)

  pub first_pair : first (pairs_faults bs h) ≡ option_or (first one) (option_or (first two) (option_or (first three) (first four)))
  unfolding pairs_faults
  first_pair = first-append one (two ++ (three ++ four)) ∙ ap (option_or (first one)) (first-append two (three ++ four) ∙ ap (option_or (first two)) (first-append three four))

  pub first_section : first (section_faults bs h) ≡ option_or (first (pairs_faults bs h)) (option_map Record (first (record_faults bs h)))
  first_section = first-append (pairs_faults bs h) (inside Record (record_faults bs h)) ∙ ap (option_or (first (pairs_faults bs h))) (first-inside Record (record_faults bs h))

  -- the records of a plan are those that its bytes tell
  pub rows_are : (p : Plan) → Told bs h p → rows_of p ≡ record_faults bs h
  rows_are p t =
      λ k. rows (t.header k) (t.numbers.begins k) (t.numbers.holds k) (t.spans.begins k) (t.spans.holds k) (t.converters.begins k) (t.converters.holds k)

module _ (p : Plan) where
  abbrev numbers : List (Judgement RecordFault)
  numbers = number_faults p.header.channels p.numbers.start p.numbers.bytes.now

  abbrev spans : List (Judgement RecordFault)
  spans = span_faults (counts_of p.header) p.spans.start p.spans.bytes.now

  abbrev converters : List (Judgement RecordFault)
  converters = converter_faults (counts_of p.header) p.header.converters p.converters.start p.converters.bytes.now

  pub first_row : first (rows_of p) ≡ option_or (first numbers) (option_or (first spans) (first converters))
  unfolding rows
  first_row = first-append numbers (spans ++ converters) ∙ ap (option_or (first numbers)) (first-append spans converters)

module _ (bs : List ℕ) where
  pub first_in_file : first (file_faults bs) ≡ option_or (first (header_faults bs)) (option_map Section (first (section_faults bs (header bs))))
  first_in_file = first-append (header_faults bs) (inside Section (section_faults bs (header bs))) ∙ ap (option_or (first (header_faults bs))) (first-inside Section (section_faults bs (header bs)))

  module _ (tariffs converters : ℕ) where
    abbrev tables : List (Judgement LoadFault)
    tables = judge (roomy (counts_of (header bs)) tariffs converters) (Book LoadTable) ∷ []

    pub first_of_load : first (load_faults bs tariffs converters) ≡ option_or (option_map File (first (file_faults bs))) (first tables)
    first_of_load = first-append (inside File (file_faults bs)) tables ∙ ap (λ r. option_or r (first tables)) (first-inside File (file_faults bs))
