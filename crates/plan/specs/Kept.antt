-- What is known of a plan whose pairs are sound.
use Rattle.std.specs.Prelude.{◌≡◌, ℕ, ◌+◌, ◌≤◌, List, length, None}
use Rattle.fault.specs.Judging.{Judgement, first}
use Rattle.fault.specs.declared.plan.RecordFault.{RecordFault}
use Rattle.plan.specs.declared.header.Header.{Header}
use Rattle.plan.specs.declared.reader.Plan.{Plan}
use Rattle.plan.specs.declared.window.Window.{Window}
use Rattle.plan.specs.Header.{header}
use Rattle.plan.specs.Plan.{rows, load_faults}
use Rattle.plan.specs.Sections.{start, section, numbers_pair, spans_pair, tariffs_pair, converters_pair, numbers_size, spans_size, tariffs_size, converters_size}

-- a window is the section that a pair tells
pub record Shows (bs : List ℕ) (pair : ℕ) (w : Window) : Type 0 where
  pub begins : w.start ≡ start bs pair
  pub holds : w.bytes.now ≡ section bs pair

-- the windows of a plan are its four sections
pub record Told (bs : List ℕ) (h : Header) (p : Plan) : Type 0 where
  pub header : p.header ≡ h
  pub numbers : Shows bs numbers_pair p.numbers
  pub spans : Shows bs spans_pair p.spans
  pub tariffs : Shows bs tariffs_pair p.tariffs
  pub converters : Shows bs converters_pair p.converters

-- a window has a size and lies within the largest plan
pub record Sized (w : Window) (size : ℕ) : Type 0 where
  pub long : length w.bytes.now ≡ size
  pub low : w.start + size ≤ 65536

-- every window has the size that the header tells
pub record Fitted (p : Plan) : Type 0 where
  pub numbers : Sized p.numbers (numbers_size p.header)
  pub spans : Sized p.spans (spans_size p.header)
  pub tariffs : Sized p.tariffs (tariffs_size p.header)
  pub converters : Sized p.converters (converters_size p.header)

-- the judgements of its records
abbrev pub rows_of : Plan → List (Judgement RecordFault)
rows_of p =
    rows p.header p.numbers.start p.numbers.bytes.now p.spans.start p.spans.bytes.now p.converters.start p.converters.bytes.now

-- a plan that is read from its bytes and has no fault
pub record Accepted (p : Plan) (bs : List ℕ) (tariffs converters : ℕ) : Type 0 where
  pub sound : first (load_faults bs tariffs converters) ≡ None
  pub told : Told bs (header bs) p
  pub fitted : Fitted p
