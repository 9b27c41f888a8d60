-- What a sound header says.
use Rattle.std.specs.Prelude.{ℕ, ◌≤◌, List, length}
use Rattle.network.specs.Extents.{Counted}
use Rattle.network.specs.Spacings.{Spaced}
use Rattle.plan.specs.Header.{header, counts_of}

pub record Headed (bs : List ℕ) : Type 0 where
  pub long : 40 ≤ length bs
  pub short : length bs ≤ 65536
  pub spaced : Spaced (header bs).spacing
  pub counted : Counted (counts_of (header bs))
  pub few : (header bs).converters ≤ 4096
