use Rattle.std.proofs.Common.{rules, ap, ◌∙◌}
use Rattle.std.specs.List.{range_with_len}
use Rattle.std.proofs.lemmas.List.Sorted.{IsNonDecreasingBy-from_sort_by_key}
use Rattle.network.specs.Rates.{exit_mark}
use Rattle.network.proofs.Sorts.{ByRate-sorted}
use Rattle.network.proofs.rows.write_exit.Goals as goal

pub returns-clause-row : goal.returns-clause-row
returns-clause-row c =
    let n = c.args.extent.counts in
    let mark = exit_mark n c.args.converters.now c.args.node c.args.from in
    ByRate-sorted mark (range_with_len 0 n.channels) c.count_up.new.row c.sort_unstable_by_key.new.self (c.count_up.ensures ∙ ap (range_with_len 0) c.requires.room) c.sort_unstable_by_key.ensures.permutation
    (IsNonDecreasingBy-from_sort_by_key mark _ c.sort_unstable_by_key.ensures.sorted (λ a r q k. search rules))
