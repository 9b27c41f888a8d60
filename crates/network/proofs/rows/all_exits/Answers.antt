use Rattle.std.proofs.Common.{◌≡◌, ℕ, ◌+◌, ◌*◌, List, ap, refl, arith, ◌∙◌, ◌≤◌}
use Rattle.network.specs.declared.counts.Counts.{Counts}
use Rattle.network.specs.Rates.{ExitsOf}
use Rattle.network.proofs.Parts.{length-put_mid, behind, parts_more}
use Rattle.network.proofs.Laid.{exits_fit, exits_laid}
use Rattle.network.proofs.rows.all_exits.Goals as goal

pub loop-node-preserved : goal.loop-node-preserved
loop-node-preserved c =
    let n = c.args.extent.counts in
    let width = c.counts-counts.result.channels in
    let size = width * width in
    let at = c.loop-node.node in
    let fits : at * size + size ≤ 16384 = exits_fit c.counts-counts.result at c.counts-counts.ensures.counted (omega arith) in
    let same : width ≡ n.channels = ap (λ (m : Counts). m.channels) c.counts-counts.ensures.is in
    let room = ap (λ k. k * k) same in
    record {
      long = length-put_mid (at * size) _ c.loop-node.exits c.write_exits.new.part (omega arith) (omega arith) ∙ c.loop-node.invariant.long;
      rows =
          parts_more (λ (u : ℕ) (part : List ℕ). ExitsOf n c.args.converters.now u part) (λ u. u * size) (λ u. u * size + size) at _ _ c.loop-node.exits c.write_exits.new.part refl
          (λ u h. behind size at u h) (omega arith) (omega arith) c.loop-node.invariant.rows c.write_exits.ensures.rows;
    }

pub returns : goal.returns
returns c =
    let same : c.counts-counts.result ≡ c.args.extent.counts = c.counts-counts.ensures.is in
    λ u a hu ha.
    exits_laid c.args.extent.counts c.args.converters.now c.loop-node.exits c.counts-counts.result.channels u a ha (ap (λ (m : Counts). m.channels) same) (c.loop-node.invariant.rows u (omega (arith, ap (λ (m : Counts). m.nodes) same)))
