-- The network that a plan tells.
use Rattle.std.specs.Prelude.{◌≡◌, ℕ, ◌<◌, zero, suc, cond, List, map, ◌==◌}
use Rattle.std.specs.List.{range_with_len}
use Rattle.network.specs.Net.{Net}
use Rattle.network.specs.Spacings.{spacing_by}
use Rattle.network.specs.Tables.{tabled}
use Rattle.network.specs.Tariffs.{absent, span_entries, converter_entries, converter_entry}
use Rattle.network.specs.declared.counts.Counts.{Counts}
use Rattle.plan.specs.declared.record.Converter.{Converter}
use Rattle.plan.specs.Header.{counts_of}
use Rattle.plan.specs.Plan.{Read}
use Rattle.plan.specs.Records.{number_in, span_in, tariff_in, converter_in}

-- the table entry that a converter has
abbrev pub place : Counts → Converter → ℕ
place n c = converter_entry n c.node c.from c.to

-- a converter is at a node, and from a channel to a channel of the network
pub record Stands (n : Counts) (c : Converter) : Type 0 where
  pub node : c.node < n.nodes
  pub from : c.from < n.channels
  pub to : c.to < n.channels

-- what the first r converters say of a table entry: the tariff of the one that has it, absent where none has
abbrev pub listed : Counts → (ℕ → Converter) → ℕ → ℕ → ℕ
listed n converter zero entry = absent
listed n converter (suc r) entry =
    cond (place n (converter r) == entry) (converter r).tariff (listed n converter r entry)

-- every number, span, tariff and converter in its place
unfoldable pub tells : Read → Net
tells p = record {
  counts = counts_of p.header;
  spacing = spacing_by p.header.spacing;
  numbers = map (number_in p.numbers) (range_with_len 0 p.header.channels);
  ends = map (span_in p.spans) (range_with_len 0 p.header.spans);
  tariffs = map (tariff_in p.tariffs) (range_with_len 0 (span_entries (counts_of p.header)));
  converters =
      map (listed (counts_of p.header) (converter_in p.converters) p.header.converters) (range_with_len 0 (converter_entries (counts_of p.header)));
}

-- what loading writes into the two tables; entries beyond those needed stay
abbrev pub tariff_table : Read → List ℕ → List ℕ
tariff_table p table = tabled (span_entries (counts_of p.header)) (tariff_in p.tariffs) table

abbrev pub converter_table : Read → List ℕ → List ℕ
converter_table p table =
    tabled (converter_entries (counts_of p.header)) (listed (counts_of p.header) (converter_in p.converters) p.header.converters) table

-- the tables hold what loading writes: it would change nothing
abbrev pub Loaded : Read → List ℕ → List ℕ → Type 0
Loaded p tariffs converters = (tariffs ≡ tariff_table p tariffs) × (converters ≡ converter_table p converters)
