-- A slip is written place by place.
use Rattle.std.proofs.Common.{◌≡◌, ℕ, suc, ◌+◌, ◌<◌, List, length, slice_set, ap, arith}
use Rattle.std.proofs.lemmas.Grind.{common_steps}
use Rattle.network.specs.Net.{Net}
use Rattle.network.specs.declared.step.Step.{Step}
use Rattle.slip.specs.declared.setting.Setting.{Setting}
use Rattle.std.proofs.lemmas.List.FromFn.{fill_by_all}
use Rattle.slip.specs.Slips.{setting_along, setting_at, step_at, step_before, blank, slip}

-- one setting more is written
pub written_more : (f : ℕ → Setting) (table : List Setting) (i : ℕ) (s : Setting) → i < length table → ((k : ℕ) → k < i → setting_at table k ≡ f k) → s ≡ f i
    → (k : ℕ) → k < i + 1 → setting_at (slice_set table i s) k ≡ f k
written_more f table i s low written e k more = grind (arith, common_steps, written k)

-- the step before a place is the one at the place before
pub before_more : (p : List Step) (i : ℕ) → step_before p (i + 1) ≡ step_at p i
before_more p i = let j : i + 1 ≡ suc i = omega arith in ap (step_before p) j

-- a table that has the setting of each of its places is the slip
pub written_all : (w : Net) (p : List Step) (room : ℕ) (table : List Setting) → length table ≡ room
    → ((k : ℕ) → k < room → setting_at table k ≡ setting_along w p k) → table ≡ slip w p room
written_all w p room table long written = fill_by_all (setting_along w p) table room blank long written
