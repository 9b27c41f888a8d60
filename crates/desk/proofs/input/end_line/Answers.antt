use Rattle.network.specs.Net.{net}
use Rattle.book.specs.State.{tables}
use Rattle.desk.specs.Feeding.{desk_of}
use Rattle.desk.proofs.Going.{turned, turned_then}
use Rattle.desk.proofs.input.end_line.Goals as goal

pub returns-in_err-reply-clause-err : goal.returns-in_err-reply-clause-err
returns-in_err-reply-clause-err c =
    turned_then c.from_residual.result (net c.args.network.now) c.args.book.now.extent.counts (desk_of c.args.book.now c.args.line.now) (tables c.reply.new.book) _ _ _ _ _ c.reply.ensures.says c.read.ensures c.bytes.ensures

pub returns-clause-ok : goal.returns-clause-ok
returns-clause-ok c =
    turned (net c.args.network.now) c.args.book.now.extent.counts (desk_of c.args.book.now c.args.line.now) (desk_of c.reply.new.book c.clear.new.self) _ _ _ _ _ c.in_ok-reply.was c.reply.ensures.says c.read.ensures c.bytes.ensures c.clear.ensures
