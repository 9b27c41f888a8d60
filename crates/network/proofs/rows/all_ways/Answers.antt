use Rattle.std.proofs.Common.{◌≡◌, ℕ, ◌+◌, ◌-◌, ◌*◌, ◌≤◌, List, length, slice_range, ap, ◌∙◌, subst, arith, rules}
use Rattle.std.proofs.lemmas.List.Edits.{length-between}
use Rattle.network.specs.declared.counts.Counts.{Counts}
use Rattle.network.specs.Indexes.{start_at, row_at}
use Rattle.network.specs.Rates.{WaysOf}
use Rattle.network.proofs.Parts.{length-put_mid, parts_more}
use Rattle.network.proofs.Laid.{ways_laid, starts_rise, times_rise, ways_fit}
use Rattle.network.proofs.rows.all_ways.Goals as goal

pub loop-node-preserved : goal.loop-node-preserved
loop-node-preserved c =
    let n = c.args.extent.counts in
    let order = c.args.index.now.order in
    let starts = c.args.index.now.starts in
    let width = c.counts-counts.result.channels in
    let at = c.loop-node.node in
    let begins : c.from-start.result ≡ start_at starts at = search rules in
    let ends : c.from-end.result ≡ start_at starts (at + 1) = search rules in
    let same : width ≡ n.channels = ap (λ (m : Counts). m.channels) c.counts-counts.ensures.is in
    let inside : at + 1 ≤ n.nodes = omega (arith, ap (λ (m : Counts). m.nodes) c.counts-counts.ensures.is) in
    let within = c.requires.ordered at (omega arith) in
    let fits : start_at starts (at + 1) * width ≤ 4096 = ways_fit c.counts-counts.result (start_at starts (at + 1)) c.counts-counts.ensures.counted within.1 in
    let rise = times_rise width (start_at starts at) (start_at starts (at + 1)) within.0 in
    let a = ap (λ k. k * width) begins in
    let b = ap (λ k. k * width) ends in
    let long : length c.write_ways.new.part ≡ start_at starts (at + 1) * width - start_at starts at * width =
    c.write_ways.ensures.room ∙ length-between c.loop-node.ways (c.from-start.result * width) (c.from-end.result * width) (omega arith) ∙ (λ i. b i - a i) in
    record {
      long = length-put_mid (c.from-start.result * width) (c.from-end.result * width - c.from-start.result * width) c.loop-node.ways c.write_ways.new.part (omega arith) (omega arith) ∙ c.loop-node.invariant.long;
      rows =
          parts_more (λ (u : ℕ) (part : List ℕ). WaysOf n c.args.tariffs.now (row_at order starts u) part) (λ u. start_at starts u * width) (λ u. start_at starts (u + 1) * width) at _ _ c.loop-node.ways c.write_ways.new.part a
          (λ u h. times_rise width (start_at starts (u + 1)) (start_at starts at) (starts_rise n order starts (at - (u + 1)) (u + 1) at c.requires.ordered (omega arith) (omega arith)))
          (omega arith) long c.loop-node.invariant.rows (subst (λ spans. WaysOf n c.args.tariffs.now spans c.write_ways.new.part) (λ i. slice_range order (begins i) (ends i)) c.write_ways.ensures.rows);
    }

pub returns : goal.returns
returns c =
    let same : c.counts-counts.result ≡ c.args.extent.counts = c.counts-counts.ensures.is in
    λ u b hu hb.
    ways_laid c.args.extent.counts c.args.tariffs.now c.args.index.now.order c.args.index.now.starts c.loop-node.ways c.counts-counts.result.channels u b (omega arith) c.requires.ordered hu hb
    (ap (λ (m : Counts). m.channels) same) (c.loop-node.invariant.rows u (omega (arith, ap (λ (m : Counts). m.nodes) same)))
