-- The records of the plan's sections, and what a sound record is.
use Rattle.std.specs.Prelude.{ℕ, zero, suc, ◌+◌, ◌*◌, Bool, true, not, ◌&&◌, ◌||◌, List, ℤ, Some, None, Option, ◌==◌, int_lt, nat_lt}
use Rattle.fault.specs.Judging.{Judgement, judge, each}
use Rattle.fault.specs.declared.plan.RecordFault.{RecordFault}
use Rattle.fault.specs.declared.plan.RecordFault.TheVariants as fault
use Rattle.network.specs.Limits.{in_range}
use Rattle.network.specs.Tariffs.{absent}
use Rattle.network.specs.declared.counts.Counts.{Counts}
use Rattle.network.specs.declared.span.Span.{Span}
use Rattle.plan.specs.declared.record.Converter.{Converter}
use Rattle.plan.specs.Bytes.{byte, short, signed}

-- record i of each section, by the section's bytes
abbrev pub number_in : List ℕ → ℕ → ℤ
number_in bs i = signed bs (2 * i)

abbrev pub span_in : List ℕ → ℕ → Span
span_in bs i = record { tail = byte bs (2 * i); head = byte bs (2 * i + 1) }

abbrev pub tariff_in : List ℕ → ℕ → ℕ
tariff_in bs i = short bs (2 * i)

abbrev pub converter_in : List ℕ → ℕ → Converter
converter_in bs i = record { node = byte bs (5 * i); from = byte bs (5 * i + 1); to = byte bs (5 * i + 2); tariff = short bs (5 * i + 3) }

-- the record before record i
abbrev pub previous : {A : Type 0} → (ℕ → A) → ℕ → Option A
previous record-at zero = None
previous record-at (suc i) = Some (record-at i)

abbrev pub after : {A : Type 0} → (A → A → Bool) → Option A → A → Bool
after less None x = true
after less (Some y) x = less y x

-- by node, then by the channel from, then by the channel to
abbrev pub before : Converter → Converter → Bool
before a b =
    nat_lt a.node b.node
    || (a.node == b.node && (nat_lt a.from b.from || (a.from == b.from && nat_lt a.to b.to)))

-- a channel number is in range, and they rise
abbrev pub sound_number : Option ℤ → ℤ → Bool
sound_number last n = in_range n && after int_lt last n

-- a span joins two different nodes
abbrev pub sound_span : Counts → Span → Bool
sound_span n s = nat_lt s.tail n.nodes && (nat_lt s.head n.nodes && not (s.tail == s.head))

-- a converter is at a node, changes one channel into another, and has a tariff; and they rise
abbrev pub sound_converter : Counts → Option Converter → Converter → Bool
sound_converter n last c =
    nat_lt c.node n.nodes
    && (nat_lt c.from n.channels
    && (nat_lt c.to n.channels
    && (not (c.from == c.to) && (nat_lt c.tariff absent && after before last c))))

-- the judgement of record i of a section that begins at a place, where records have a size
abbrev pub record_row : {R : Type 0} → ℕ → (Option R → R → Bool) → (ℕ → RecordFault) → ℕ → (ℕ → R) → ℕ → Judgement RecordFault
record_row size sound fault at record-at i = judge (sound (previous record-at i) (record-at i)) (fault (at + size * i))

abbrev pub number_row : ℕ → List ℕ → ℕ → Judgement RecordFault
number_row at bs = record_row 2 sound_number fault.Channel at (number_in bs)

abbrev pub span_row : Counts → ℕ → List ℕ → ℕ → Judgement RecordFault
span_row n at bs = record_row 2 (λ _. sound_span n) fault.Span at (span_in bs)

abbrev pub converter_row : Counts → ℕ → List ℕ → ℕ → Judgement RecordFault
converter_row n at bs = record_row 5 (sound_converter n) fault.Converter at (converter_in bs)

-- the records of a section, in their order
abbrev pub number_faults : ℕ → ℕ → List ℕ → List (Judgement RecordFault)
number_faults count at bs = each count (number_row at bs)

abbrev pub span_faults : Counts → ℕ → List ℕ → List (Judgement RecordFault)
span_faults n at bs = each n.spans (span_row n at bs)

abbrev pub converter_faults : Counts → ℕ → ℕ → List ℕ → List (Judgement RecordFault)
converter_faults n count at bs = each count (converter_row n at bs)
