-- Bytes outside the header and the sections do not count.
use Rattle.std.specs.Prelude.{◌≡◌, ℕ, List, length, take}
use Rattle.fault.specs.Judging.{first}
use Rattle.plan.specs.Plan.{load_faults, read}
use Rattle.plan.specs.Sections.{section, numbers_pair, spans_pair, tariffs_pair, converters_pair}

-- two plans as long as each other, with the same header and the same sections
pub record Alike (bs cs : List ℕ) : Type 0 where
  pub long : length bs ≡ length cs
  pub header : take 40 bs ≡ take 40 cs
  pub numbers : section bs numbers_pair ≡ section cs numbers_pair
  pub spans : section bs spans_pair ≡ section cs spans_pair
  pub tariffs : section bs tariffs_pair ≡ section cs tariffs_pair
  pub converters : section bs converters_pair ≡ section cs converters_pair

-- such plans have the same first fault, and the same is read of them
abbrev pub Unread : Type 0
Unread =
    (bs cs : List ℕ) → Alike bs cs → (tariffs converters : ℕ) → (first (load_faults bs tariffs converters) ≡ first (load_faults cs tariffs converters)) × (read bs ≡ read cs)
