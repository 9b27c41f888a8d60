use Rattle.std.proofs.Common.{refl}
use Rattle.network.specs.Net.{net}
use Rattle.cost.specs.Sums.{sum_ops}
use Rattle.cost.specs.Fews.{few_ops}
use Rattle.cost.specs.Worsts.{worst_ops}
use Rattle.book.specs.State.{tables}
use Rattle.ticket.specs.declared.CostKind.TheVariants as kind
use Rattle.desk.specs.declared.reply.Cost.TheVariants as cost
use Rattle.desk.proofs.Costed.{lit_by}
use Rattle.desk.proofs.ordering.light_by_kind.Goals as goal

pub returns-in-Sum-clause-answer : goal.returns-in-Sum-clause-answer
returns-in-Sum-clause-answer c =
    lit_by (net c.args.network.now) c.args.book.now.extent.counts (tables c.args.book.now) c.args.network.now.extent.counted kind.Sum sum_ops (λ v. cost.Sum v) (λ g s t due P R z. z) c.light.result c.by_sum.result c.by_sum.ensures _ refl c.args.order (tables c.light.new.book) c.in-Sum.is c.light.ensures.answer

pub returns-in-Few-clause-answer : goal.returns-in-Few-clause-answer
returns-in-Few-clause-answer c =
    lit_by (net c.args.network.now) c.args.book.now.extent.counts (tables c.args.book.now) c.args.network.now.extent.counted kind.Few few_ops (λ v. cost.Few v) (λ g s t due P R z. z) c.light-in-Few.result c.by_few.result c.by_few.ensures _ refl c.args.order (tables c.light-in-Few.new.book) c.in-Few.is c.light-in-Few.ensures.answer

pub returns-in-Worst-clause-answer : goal.returns-in-Worst-clause-answer
returns-in-Worst-clause-answer c =
    lit_by (net c.args.network.now) c.args.book.now.extent.counts (tables c.args.book.now) c.args.network.now.extent.counted kind.Worst worst_ops (λ v. cost.Worst v) (λ g s t due P R z. z) c.light-in-Worst.result c.by_worst.result c.by_worst.ensures _ refl c.args.order (tables c.light-in-Worst.new.book) c.in-Worst.is c.light-in-Worst.ensures.answer
