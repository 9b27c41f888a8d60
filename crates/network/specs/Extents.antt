-- The limits of a network's counts.
use Rattle.std.specs.Prelude.{◌≤◌, Bool, cond, Some, None, Option}
use Rattle.network.specs.declared.counts.Counts.{Counts}

-- 1 to 64 nodes, at most 256 spans, 1 to 16 channels
abbrev pub Counted : Counts → Type 0
Counted n = (1 ≤ n.nodes) × (n.nodes ≤ 64) × (n.spans ≤ 256) × (1 ≤ n.channels) × (n.channels ≤ 16)

-- something that is there only where a test says so
abbrev pub given : {A : Type 0} → Bool → A → Option A
given b x = cond b (Some x) None
