use Rattle.std.proofs.Common.{rules}
use Rattle.week.proofs.Seen.{gives_back_seen}
use Rattle.week.proofs.living.week.Goals as goal

pub returns-clause-seen : goal.returns-clause-seen
returns-clause-seen c =
    let calls = c.live-told.ensures.calls in
    (search rules, gives_back_seen _ _ _ c.args.trip _ _ _ _ c.live-told.result calls.calls (c.open-book.ensures.law calls.calls c.live-told.new.book calls.run).right calls.told)
