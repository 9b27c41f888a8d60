use Rattle.std.proofs.Common.{◌≡◌, ℕ, ◌<◌, None}
use Rattle.network.specs.Steps.{step}
use Rattle.search.proofs.entry.is_open.Given as goal

abbrev pub invariant-loop-channel : goal.invariant-loop-channel
invariant-loop-channel g l = (c : ℕ) → c < l.channel → g.F.Fares.fare l.fares (step l.span c) ≡ None
