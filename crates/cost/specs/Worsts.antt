-- WORST: the largest tariff.
use Rattle.std.specs.Prelude.{ℕ, max, nat_le}
use Rattle.cost.specs.Laws.{Ops}

abbrev pub worst_ops : Ops ℕ
worst_ops = record { start = 0; span = max; conversion = max; at_most = nat_le }
