use Rattle.std.proofs.Common.{◌≡◌, ℕ, ◌+◌, ◌*◌, List, length, ap, refl, arith}
use Rattle.network.specs.declared.counts.Counts.{Counts}
use Rattle.network.specs.Rates.{ByRate, span_mark}
use Rattle.network.proofs.Parts.{behind, parts_more}
use Rattle.network.proofs.rows.write_ways.Goals as goal

pub loop-channel-preserved : goal.loop-channel-preserved
loop-channel-preserved c =
    let n = c.args.extent.counts in
    let spans = c.args.spans.now in
    let width = length spans in
    let at = c.loop-channel.channel in
    let same : c.counts-channel-end.result.channels ≡ n.channels = ap (λ (m : Counts). m.channels) c.counts-channel-end.ensures.is in
    let within = behind width n.channels at (omega arith) in
    parts_more (λ (b : ℕ) (row : List ℕ). ByRate (span_mark n c.args.tariffs.now b) spans row) (λ b. b * width) (λ b. b * width + width) at _ _ c.loop-channel.part c.write_way.new.row refl
    (λ b h. behind width at b h) (omega arith) (omega arith) c.loop-channel.invariant c.write_way.ensures.row

pub returns-clause-rows : goal.returns-clause-rows
returns-clause-rows c =
    let same : c.counts-channel-end.result.channels ≡ c.args.extent.counts.channels = ap (λ (m : Counts). m.channels) c.counts-channel-end.ensures.is in
    λ b h. c.loop-channel.invariant b (omega arith)
