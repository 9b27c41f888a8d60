-- The plan's first eight bytes, and what a sound header is.
use Rattle.std.specs.Prelude.{ℕ, List, [], ◌∷◌, length, ◌==◌, nat_le}
use Rattle.fault.specs.Judging.{Judgement, judge}
use Rattle.fault.specs.declared.plan.FileFault.{FileFault}
use Rattle.fault.specs.declared.plan.FileFault.TheVariants.{Size, Version, Value}
use Rattle.network.specs.declared.counts.Counts.{Counts}
use Rattle.plan.specs.declared.header.Header.{Header}
use Rattle.plan.specs.Bytes.{byte, short, among}

abbrev pub header : List ℕ → Header
header bs = record { spacing = byte bs 1; nodes = byte bs 2; channels = byte bs 3; spans = short bs 4; converters = short bs 6 }

-- in the order in which they are judged
abbrev pub header_faults : List ℕ → List (Judgement FileFault)
header_faults bs =
    judge (among 40 65536 (length bs)) Size
    ∷ judge (byte bs 0 == 1) Version
    ∷ judge (among 1 4 (header bs).spacing) (Value 1)
    ∷ judge (among 1 64 (header bs).nodes) (Value 2)
    ∷ judge (among 1 16 (header bs).channels) (Value 3)
    ∷ judge (nat_le (header bs).spans 256) (Value 4)
    ∷ judge (nat_le (header bs).converters 4096) (Value 6)
    ∷ []

abbrev pub counts_of : Header → Counts
counts_of h = record { nodes = h.nodes; spans = h.spans; channels = h.channels }
