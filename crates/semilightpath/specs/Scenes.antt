-- A network at a moment.
use Rattle.std.specs.Prelude.{ℕ, Option}
use Rattle.network.specs.Net.{Net, tariff_of}
use Rattle.network.specs.declared.step.Step.{Step}

-- a network, and the fare of each step: the tariff of its channel where that can be used at that moment, else none
pub record Scene : Type 0 where
  pub net : Net
  pub fare : Step → Option ℕ

abbrev pub scene : Net → (Step → Option ℕ) → Scene
scene w f = record { net = w; fare = f }

-- a network alone: every channel that a span carries can be used
abbrev pub alone : Net → Scene
alone w = scene w (λ e. tariff_of w e.span e.channel)
