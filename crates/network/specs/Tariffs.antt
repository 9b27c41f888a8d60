-- The two tables of tariffs, and where an entry lies in them.
use Rattle.std.specs.Prelude.{ℕ, ◌+◌, ◌*◌, cond, List, [], ◌∷◌, Option, ◌==◌, nat_lt}
use Rattle.network.specs.declared.counts.Counts.{Counts}
use Rattle.network.specs.Extents.{given}

-- what stands where a span does not carry a channel, or a node has no such converter
abbrev pub absent : ℕ
absent = 65535

-- an entry below it is a tariff
abbrev pub tariff : ℕ → Option ℕ
tariff w = given (nat_lt w absent) w

-- one entry for each span and channel
abbrev pub span_entries : Counts → ℕ
span_entries n = n.spans * n.channels

abbrev pub span_entry : Counts → ℕ → ℕ → ℕ
span_entry n span channel = span * n.channels + channel

-- one entry for each node, channel from and channel to
abbrev pub converter_entries : Counts → ℕ
converter_entries n = n.nodes * n.channels * n.channels

abbrev pub converter_entry : Counts → ℕ → ℕ → ℕ → ℕ
converter_entry n node from to = (node * n.channels + from) * n.channels + to

-- one entry for each node and channel on which it may be entered
abbrev pub arrival_entries : Counts → ℕ
arrival_entries n = n.nodes * n.channels

abbrev pub arrival_entry : Counts → ℕ → ℕ → ℕ
arrival_entry n node channel = node * n.channels + channel

-- how many entries of a table are not absent
abbrev pub present : List ℕ → ℕ
present [] = 0
present (w ∷ ws) = cond (w == absent) 0 1 + present ws
