-- An entry of a table lies within what is needed of the table.
use Rattle.std.proofs.Common.{ℕ, ◌+◌, ◌*◌, ◌<◌, arith}
use Rattle.std.proofs.lemmas.Nat.{mul-add-lt}
use Rattle.network.specs.declared.counts.Counts.{Counts}
use Rattle.network.specs.Tariffs.{span_entries, span_entry, converter_entries, converter_entry}

pub span_entry_lem : (n : Counts) (e c : ℕ) → e < n.spans → c < n.channels → span_entry n e c < span_entries n
span_entry_lem n e c he hc = omega (arith, mul-add-lt e n.channels c n.spans he hc)

pub converter_entry_lem : (n : Counts) (u a b : ℕ) → u < n.nodes → a < n.channels → b < n.channels → converter_entry n u a b < converter_entries n
converter_entry_lem n u a b hu ha hb =
    let row : u * n.channels + a < n.nodes * n.channels = omega (arith, mul-add-lt u n.channels a n.nodes hu ha) in
    omega (arith, mul-add-lt (u * n.channels + a) n.channels b (n.nodes * n.channels) row hb)
