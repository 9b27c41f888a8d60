use Rattle.std.proofs.Common.{◌-◌, Some}
use Rattle.records.specs.Chains.{along}
use Rattle.records.specs.Changes.{given_back}
use Rattle.records.proofs.Giving.{Leaves}
use Rattle.book.proofs.changes.give_back.Given as goal

abbrev pub invariant-loop : goal.invariant-loop
invariant-loop l =
    Leaves l.extent.counts (given_back l.extent.counts (along l.extent.counts l.initial.channels (Some l.fn.route)) l.initial.channels) l.channels (l.fn.route.steps - l.counter) l.at
