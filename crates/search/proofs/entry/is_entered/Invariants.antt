use Rattle.std.proofs.Common.{◌≡◌, ℕ, ◌<◌, None, slice_index}
use Rattle.network.specs.Steps.{step}
use Rattle.search.proofs.entry.is_entered.Given as goal

abbrev pub invariant-loop-span : goal.invariant-loop-span
invariant-loop-span g l = (j c : ℕ) → j < l.span-index → c < (g.F.Fares.over l.fares).counts.channels → g.F.Fares.fare l.fares (step (slice_index l.span-items j) c) ≡ None
