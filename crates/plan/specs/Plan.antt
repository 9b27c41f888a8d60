-- A plan: which fault comes first, and the network that it tells.
use Rattle.std.specs.Prelude.{ℕ, Bool, ◌&&◌, List, [], ◌∷◌, ◌++◌, nat_le}
use Rattle.fault.specs.Judging.{Judgement, judge, inside}
use Rattle.fault.specs.declared.book.BookFault.TheVariants.{LoadTable}
use Rattle.fault.specs.declared.plan.FileFault.{FileFault}
use Rattle.fault.specs.declared.plan.FileFault.TheVariants.{Section}
use Rattle.fault.specs.declared.plan.LoadFault.{LoadFault}
use Rattle.fault.specs.declared.plan.LoadFault.TheVariants.{File, Book}
use Rattle.fault.specs.declared.plan.RecordFault.{RecordFault}
use Rattle.fault.specs.declared.plan.SectionFault.{SectionFault}
use Rattle.fault.specs.declared.plan.SectionFault.TheVariants.{Record}
use Rattle.network.specs.Tariffs.{span_entries, converter_entries}
use Rattle.network.specs.declared.counts.Counts.{Counts}
use Rattle.plan.specs.declared.header.Header.{Header}
use Rattle.plan.specs.declared.reader.Plan.{Plan}
use Rattle.plan.specs.Header.{header, header_faults, counts_of}
use Rattle.plan.specs.Records.{number_faults, span_faults, converter_faults}
use Rattle.plan.specs.Sections.{start, end, section, numbers_pair, spans_pair, tariffs_pair, converters_pair, numbers_size, spans_size, tariffs_size, converters_size, pair_faults}

-- first the header, then each pair, then each record, then the tables
unfoldable pub pairs_faults : List ℕ → Header → List (Judgement SectionFault)
pairs_faults bs h =
    pair_faults bs numbers_pair 40 (numbers_size h)
    ++ (pair_faults bs spans_pair (end bs numbers_pair) (spans_size h)
    ++ (pair_faults bs tariffs_pair (end bs spans_pair) (tariffs_size h)
    ++ pair_faults bs converters_pair (end bs tariffs_pair) (converters_size h)))

-- the records of the sections that begin at a, b and d
unfoldable pub rows : Header → ℕ → List ℕ → ℕ → List ℕ → ℕ → List ℕ → List (Judgement RecordFault)
rows h a numbers b spans d converters =
    number_faults h.channels a numbers ++ (span_faults (counts_of h) b spans ++ converter_faults (counts_of h) h.converters d converters)

abbrev pub record_faults : List ℕ → Header → List (Judgement RecordFault)
record_faults bs h =
    rows h (start bs numbers_pair) (section bs numbers_pair) (start bs spans_pair) (section bs spans_pair) (start bs converters_pair) (section bs converters_pair)

abbrev pub section_faults : List ℕ → Header → List (Judgement SectionFault)
section_faults bs h = pairs_faults bs h ++ inside Record (record_faults bs h)

abbrev pub file_faults : List ℕ → List (Judgement FileFault)
file_faults bs = header_faults bs ++ inside Section (section_faults bs (header bs))

-- the tables have an entry for all that the plan tells
abbrev pub roomy : Counts → ℕ → ℕ → Bool
roomy n tariffs converters = nat_le (span_entries n) tariffs && nat_le (converter_entries n) converters

abbrev pub load_faults : List ℕ → ℕ → ℕ → List (Judgement LoadFault)
load_faults bs tariffs converters =
    inside File (file_faults bs) ++ judge (roomy (counts_of (header bs)) tariffs converters) (Book LoadTable) ∷ []

-- what is read of a plan: its header and the bytes of its sections
pub record Read : Type 0 where
  pub header : Header
  pub numbers : List ℕ
  pub spans : List ℕ
  pub tariffs : List ℕ
  pub converters : List ℕ

abbrev pub read : List ℕ → Read
read bs = record {
  header = header bs;
  numbers = section bs numbers_pair;
  spans = section bs spans_pair;
  tariffs = section bs tariffs_pair;
  converters = section bs converters_pair;
}

abbrev pub read_by : Plan → Read
read_by p = record {
  header = p.header;
  numbers = p.numbers.bytes.now;
  spans = p.spans.bytes.now;
  tariffs = p.tariffs.bytes.now;
  converters = p.converters.bytes.now;
}
