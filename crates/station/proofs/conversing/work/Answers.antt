use Rattle.std.proofs.Common.{rules}
use Rattle.network.specs.Net.{net}
use Rattle.book.specs.State.{lent}
use Rattle.station.proofs.Room.{roomy}
use Rattle.station.proofs.Conversed.{worked}
use Rattle.station.proofs.conversing.work.Goals as goal

pub open-book-requires : goal.open-book-requires
open-book-requires g c =
    roomy c.args.network.now.extent.counts
    (lent c.as_mut_slice.result.now c.as_mut_slice-2.result.now c.as_mut_slice-3.result.now)
    c.args.network.now.extent.counted
    (search rules)
    (search rules)
    (search rules)

pub returns : goal.returns
returns g c =
    worked _ _ _ _ _ (net c.args.network.now) _ (lent c.as_mut_slice.result.now c.as_mut_slice-2.result.now c.as_mut_slice-3.result.now) _ _ c.open-book.ensures.counts c.open-book.ensures.tables
    (roomy c.args.network.now.extent.counts
    (lent c.as_mut_slice.result.now c.as_mut_slice-2.result.now c.as_mut_slice-3.result.now)
    c.args.network.now.extent.counted
    (search rules)
    (search rules)
    (search rules))
    c.serve.ensures.ok
