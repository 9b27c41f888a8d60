use Rattle.std.proofs.Common.{ap, ◌∙◌, arith}
use Rattle.network.specs.Net.{net}
use Rattle.records.specs.Chains.{channel_at, next}
use Rattle.semilightpath.specs.Scenes.{alone}
use Rattle.pricing.proofs.Left.{comes_one, comes_all, comes_none}
use Rattle.pricing.proofs.standing.price_standing.Goals as goal

pub returns-in_default : goal.returns-in_default
returns-in_default g c = comes_none g.K.Kind.ops (alone (net c.args.network.now)) c.args.network.now.extent.counts c.args.channels.now _ _ c.loop.entered _ _ c.in_default.is c.loop.invariant

pub loop-preserved : goal.loop-preserved
loop-preserved g c = comes_one g.K.Kind.ops (alone (net c.args.network.now)) c.args.network.now.extent.counts c.args.channels.now _ _ _ c.loop.entered _ _ _ _ _ c.loop-test.true c.in-Some.is c.priced-value.ensures (c.next_step-at.ensures ∙ ap (λ n. next (channel_at n c.args.channels.now c.in-Some.step)) c.extent-extent.ensures) c.loop.invariant

pub returns : goal.returns
returns g c = comes_all g.K.Kind.ops (alone (net c.args.network.now)) c.args.network.now.extent.counts c.args.channels.now _ _ c.loop.entered _ _ (omega arith) c.loop.invariant
