-- How many channels are held.
use Rattle.std.specs.Prelude.{ℕ, List, take, count_by, is_some}
use Rattle.network.specs.declared.counts.Counts.{Counts}
use Rattle.network.specs.Tariffs.{span_entries}
use Rattle.records.specs.Chains.{Channel}

-- how many channels of the network have a record that names a circuit
abbrev pub held : Counts → List Channel → ℕ
held n channels = count_by is_some (take (span_entries n) channels)
