use Rattle.std.proofs.Common.{◌≡◌, ℕ, ◌+◌, ◌*◌, List, slice_range, subst, ap, refl, arith}
use Rattle.std.specs.List.{range_with_len}
use Rattle.network.specs.declared.counts.Counts.{Counts}
use Rattle.network.specs.Rates.{ByRate, exit_mark}
use Rattle.network.proofs.Parts.{behind, parts_more}
use Rattle.network.proofs.rows.write_exits.Goals as goal

pub loop-from-preserved : goal.loop-from-preserved
loop-from-preserved c =
    let n = c.args.extent.counts in
    let width = c.counts-channels.result.channels in
    let at = c.loop-from.from in
    let same : width ≡ n.channels = ap (λ (m : Counts). m.channels) c.counts-channels.ensures.is in
    let within = behind width width at (omega arith) in
    let room = ap (λ k. k * k) same in
    parts_more (λ (a : ℕ) (row : List ℕ). ByRate (exit_mark n c.args.converters.now c.args.node a) (range_with_len 0 n.channels) row) (λ a. a * width) (λ a. a * width + width) at _ _ c.loop-from.part c.write_exit.new.row refl
    (λ a h. behind width at a h) (omega arith) (omega arith) c.loop-from.invariant c.write_exit.ensures.row

pub returns-clause-rows : goal.returns-clause-rows
returns-clause-rows c =
    let n = c.args.extent.counts in
    let same : c.counts-channels.result.channels ≡ n.channels = ap (λ (m : Counts). m.channels) c.counts-channels.ensures.is in
    λ a h.
    subst (λ width. ByRate (exit_mark n c.args.converters.now c.args.node a) (range_with_len 0 n.channels) (slice_range c.loop-from.part (a * width) (a * width + width))) same
    (c.loop-from.invariant a (omega arith))
