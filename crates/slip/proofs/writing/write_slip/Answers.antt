use Rattle.std.proofs.Common.{◌≡◌, Some, sym, ◌∙◌, arith}
use Rattle.network.specs.Net.{net}
use Rattle.records.specs.Chains.{along}
use Rattle.slip.specs.Slips.{setting_along, step_at}
use Rattle.slip.proofs.Told.{settings_lead, tells}
use Rattle.slip.proofs.Written.{written_more, before_more}
use Rattle.records.proofs.Chained.{chain_next, chain_ended}
use Rattle.slip.proofs.writing.write_slip.Goals as goal
use Rattle.slip.proofs.writing.write_slip.Goals.{then-place-steps, else-place-steps}

pub loop-place-preserved : goal.loop-place-preserved
loop-place-preserved c =
    let a = c.args in
    let i = c.loop-place.place in
    let w = net a.network.now in
    let p = along w.counts a.channels.now (Some a.route) in
    let known = c.loop-place.invariant in
    let here : c.if-place-steps.here ≡ step_at p i =
    elim c.if-place-steps.branch [
      | then-place-steps b ↦ b.here-is ∙ known.at (omega arith)
      | else-place-steps b ↦ b.here-is ∙ sym (chain_ended w.counts a.channels.now a.route.steps i (Some a.route.first) (omega arith))
    ] in
    let is : c.setting.result ≡ setting_along w p i = cc (c.setting.ensures, known.before, here) in
    record {
      written = written_more (setting_along w p) c.loop-place.buffer i c.setting.result (omega arith) known.written is;
      before = here ∙ sym (before_more p i);
      at = λ more. rw (c.following-at.ensures, c.extent-extent.ensures, here) (sym (chain_next w.counts a.channels.now a.route.steps i (Some a.route.first) more));
    }

pub returns-clause-tells : goal.returns-clause-tells
returns-clause-tells c =
    let w = net c.args.network.now in
    λ enough. tells w (along w.counts c.args.channels.now (Some c.args.route)) c.loop-place.buffer (λ k low. c.loop-place.invariant.written k (omega arith)) (omega (arith, enough))

pub returns-clause-lead : goal.returns-clause-lead
returns-clause-lead c =
    let w = net c.args.network.now in
    settings_lead w (along w.counts c.args.channels.now (Some c.args.route))
