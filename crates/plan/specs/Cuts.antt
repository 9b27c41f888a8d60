-- The window that an accepted pair gives.
use Rattle.std.specs.Prelude.{◌≡◌, ℕ, ◌+◌, ◌≤◌, List, length, None}
use Rattle.fault.specs.Judging.{first}
use Rattle.plan.specs.declared.window.Window.{Window}
use Rattle.plan.specs.Sections.{start, end, section, pair_faults}

pub record Cut (bs : List ℕ) (pair floor size : ℕ) (w : Window) : Type 0 where
  pub sound : first (pair_faults bs pair floor size) ≡ None
  pub begins : w.start ≡ start bs pair
  pub holds : w.bytes.now ≡ section bs pair
  pub long : length w.bytes.now ≡ size
  pub closes : w.start + length w.bytes.now ≡ end bs pair
  pub ends : end bs pair ≤ length bs
