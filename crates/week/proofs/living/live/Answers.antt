use Rattle.std.proofs.Common.{ℕ, subst}
use Rattle.network.specs.Net.{net}
use Rattle.cost.specs.Numberings.{fee_numbers, tariff_numbers}
use Rattle.cost.specs.Sums.{sum_ops}
use Rattle.cost.specs.Worsts.{worst_ops}
use Rattle.book.specs.declared.Book.{Book}
use Rattle.account.specs.Going.{Goes}
use Rattle.account.proofs.Calls.{look_leads, slip_leads, trial_leads, shut_leads, reckon_leads, darken_leads, goes_one, goes_then}
use Rattle.week.specs.Weeks.{Doubts}
use Rattle.week.proofs.living.live.Goals as goal

pub returns-clause-calls : goal.returns-clause-calls
returns-clause-calls c =
    let w = net c.args.network.now in
    let lit : Book = c.light-lit.new.book in
    let tried : Book = c.trial-without.new.self in
    let shut : Book = c.shut-shut.new.self in
    let doubted : Book = c.doubt-given_back.new.book in
    let doubts = subst (λ (room : ℕ). Goes (Doubts w c.args.trip.other c.args.trip.from c.args.trip.to room c.doubt-given_back.result) shut doubted) c.trial-without.ensures.long c.doubt-given_back.ensures.calls in
    goes_then _ _ _ _ _ c.light-lit.ensures.calls
    (goes_then _ _ _ _ _ (goes_one _ _ _ (look_leads lit _ _ c.look-seen.ensures))
    (goes_then _ _ _ _ _ (goes_one _ _ _ (slip_leads lit w _ _ _ _ c.slip-written.ensures.call))
    (goes_then _ _ _ _ _ (goes_one _ _ _ (trial_leads lit tried c.trial-without.ensures.kept fee_numbers sum_ops w _ _ _ _ _ c.trial-without.ensures.tables (c.trial-without.ensures.numbered fee_numbers)))
    (goes_then _ _ _ _ _ (goes_one _ _ _ (shut_leads tried shut c.shut-shut.ensures.kept _ _ c.shut-shut.ensures.call))
    (goes_then _ _ _ _ _ (goes_one _ _ _ (reckon_leads shut tariff_numbers worst_ops w _ _ (c.reckon-worst.ensures.numbered tariff_numbers)))
    (goes_then _ _ _ _ _ doubts
    (goes_one _ _ _ (darken_leads doubted c.darken-darkened.new.self c.darken-darkened.ensures.kept _ _ c.darken-darkened.ensures.call))))))))
