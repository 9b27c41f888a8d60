use Rattle.std.proofs.Common.{rules}
use Rattle.std.proofs.lemmas.List.Sorted.{IsNonDecreasingBy-from_sort_by_key}
use Rattle.network.specs.Rates.{span_mark}
use Rattle.network.proofs.Sorts.{ByRate-sorted}
use Rattle.network.proofs.rows.write_way.Goals as goal

pub returns-clause-row : goal.returns-clause-row
returns-clause-row c =
    let mark = span_mark c.args.extent.counts c.args.tariffs.now c.args.channel in
    ByRate-sorted mark c.args.spans.now c.copy.new.row c.sort_unstable_by_key.new.self c.copy.ensures c.sort_unstable_by_key.ensures.permutation
    (IsNonDecreasingBy-from_sort_by_key mark _ c.sort_unstable_by_key.ensures.sorted (λ a r q k. search rules))
