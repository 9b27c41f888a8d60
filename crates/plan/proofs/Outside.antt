-- Plans that are alike are judged alike.
use Rattle.std.proofs.Common.{◌≡◌, ℕ, ◌+◌, ◌*◌, ◌<◌, List, [], ◌∷◌, ◌++◌, get_or, sym, ap, ◌∙◌, arith}
use Rattle.std.proofs.lemmas.List.{get_or-take}
use Rattle.fault.specs.Judging.{judge, first, inside}
use Rattle.fault.specs.declared.book.BookFault.TheVariants.{LoadTable}
use Rattle.fault.specs.declared.plan.FileFault.TheVariants.{Section}
use Rattle.fault.specs.declared.plan.LoadFault.TheVariants.{File, Book}
use Rattle.fault.specs.declared.plan.SectionFault.TheVariants.{Record}
use Rattle.plan.specs.Bytes.{byte, short, wide}
use Rattle.plan.specs.Header.{header, header_faults, counts_of}
use Rattle.plan.specs.Plan.{rows, pairs_faults, record_faults, load_faults, roomy, read}
use Rattle.plan.specs.Sections.{start, extent, end}
use Rattle.plan.specs.Unread.{Alike, Unread}

module _ (bs cs : List ℕ) (a : Alike bs cs) where
  byte_same : (i : ℕ) → i < 40 → byte bs i ≡ byte cs i
  byte_same i h = sym (get_or-take 40 bs i 0 h) ∙ ap (λ (l : List ℕ). get_or l i 0) a.header ∙ get_or-take 40 cs i 0 h

  short_same : (i : ℕ) → i + 1 < 40 → short bs i ≡ short cs i
  short_same i h = λ k. byte_same i (omega arith) k * 256 + byte_same (i + 1) h k

  wide_same : (i : ℕ) → i + 3 < 40 → wide bs i ≡ wide cs i
  wide_same i h =
      λ k. byte_same i (omega arith) k * 16777216 + byte_same (i + 1) (omega arith) k * 65536 + byte_same (i + 2) (omega arith) k * 256 + byte_same (i + 3) h k

  header_same : header bs ≡ header cs
  header_same = λ k. record {
    spacing = byte_same 1 (omega arith) k;
    nodes = byte_same 2 (omega arith) k;
    channels = byte_same 3 (omega arith) k;
    spans = short_same 4 (omega arith) k;
    converters = short_same 6 (omega arith) k;
  }

  headers_same : header_faults bs ≡ header_faults cs
  headers_same =
      let long = a.long in
      let version = byte_same 0 (omega arith) in
      let same = header_same in
      cc

  start_same : (pair : ℕ) → pair < 33 → start bs pair ≡ start cs pair
  start_same pair h = wide_same pair (omega arith)

  extent_same : (pair : ℕ) → pair < 33 → extent bs pair ≡ extent cs pair
  extent_same pair h = wide_same (pair + 4) (omega arith)

  end_same : (pair : ℕ) → pair < 33 → end bs pair ≡ end cs pair
  end_same pair h = λ k. start_same pair h k + extent_same pair h k

  pairs_same : pairs_faults bs (header bs) ≡ pairs_faults cs (header cs)
  unfolding pairs_faults
  pairs_same =
      let long = a.long in
      let same = header_same in
      let numbers = start_same 8 (omega arith) in
      let spans = start_same 16 (omega arith) in
      let tariffs = start_same 24 (omega arith) in
      let converters = start_same 32 (omega arith) in
      let numbers-long = extent_same 8 (omega arith) in
      let spans-long = extent_same 16 (omega arith) in
      let tariffs-long = extent_same 24 (omega arith) in
      let converters-long = extent_same 32 (omega arith) in
      cc

  records_same : record_faults bs (header bs) ≡ record_faults cs (header cs)
  records_same =
      λ k. rows (header_same k) (start_same 8 (omega arith) k) (a.numbers k) (start_same 16 (omega arith) k) (a.spans k) (start_same 32 (omega arith) k) (a.converters k)

  loads_same : (tariffs converters : ℕ) → load_faults bs tariffs converters ≡ load_faults cs tariffs converters
  loads_same tariffs converters =
      λ k.
      inside File (headers_same k ++ inside Section (pairs_same k ++ inside Record (records_same k)))
      ++ judge (roomy (counts_of (header_same k)) tariffs converters) (Book LoadTable) ∷ []

  read_same : read bs ≡ read cs
  read_same = λ k. record { header = header_same k; numbers = a.numbers k; spans = a.spans k; tariffs = a.tariffs k; converters = a.converters k }

pub unread : Unread
unread bs cs a tariffs converters = (ap first (loads_same bs cs a tariffs converters), read_same bs cs a)
