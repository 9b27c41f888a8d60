use Rattle.std.proofs.Common.{◌≡◌, ℕ, ◌<◌, Some}
use Rattle.network.specs.Net.{net}
use Rattle.records.specs.Chains.{along}
use Rattle.slip.specs.Slips.{setting_along, step_at, step_before, setting_at}
use Rattle.slip.proofs.writing.write_slip.Given as goal

-- the settings so far are written; the step before this place and, on the path, the one at it are known
abbrev pub invariant-loop-place : goal.invariant-loop-place
invariant-loop-place l =
    let w = net l.network in
    let p = along w.counts l.channels (Some l.fn.route) in
    record {
      written : (k : ℕ) → k < l.place → setting_at l.buffer k ≡ setting_along w p k;
      before : l.before ≡ step_before p l.place;
      at : l.place < l.fn.route.steps → l.at ≡ step_at p l.place;
    }
