-- When a path can be taken.
use Rattle.std.specs.Prelude.{◌≡◌, ℕ, ◌<◌, ◌≤◌, true, List, length, None}
use Rattle.network.specs.declared.counts.Counts.{Counts}
use Rattle.network.specs.declared.step.Step.{Step}
use Rattle.network.specs.Steps.{on, distinct}
use Rattle.network.specs.Tariffs.{arrival_entries}
use Rattle.records.specs.Chains.{circuit_count, channel_at, route_of}
use Rattle.records.specs.Sound.{AllWithin}
use Rattle.book.specs.State.{Tables}

-- circuit c is free, and the path, which takes no channel twice, leads over free channels alone
pub record CanTake (n : Counts) (x : Tables) (c : ℕ) (p : List Step) : Type 0 where
  pub known : c < circuit_count
  pub free : route_of x.circuits c ≡ None
  pub some : 1 ≤ length p
  pub short : length p ≤ arrival_entries n
  pub within : AllWithin n p
  pub once : distinct p ≡ true
  pub unheld : (s : Step) → on s p ≡ true → channel_at n x.channels s ≡ None
