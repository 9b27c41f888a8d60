use Rattle.std.proofs.Common.{◌≡◌, length, rules}
use Rattle.std.proofs.lemmas.Result.{err_from_is_err_and}
use Rattle.ticket.proofs.Cutting.{IsAt, large_here, goes_on, ends_run, byte_fault, byte_sound, large_last, whole}
use Rattle.ticket.proofs.words.Words.cut.Goals as goal
use Rattle.ticket.proofs.words.Words.cut.Goals.{then-run_ends+in_ok-hold, else-run_ends}

pub returns-in_err-hold : goal.returns-in_err-hold
returns-in_err-hold c =
    let p = err_from_is_err_and c.from_residual.result c.from_residual.ensures.1 in
    rw (p.1, p.2) (large_here _ _ _ _ c.loop-i.invariant _ c.loop-i-test.true (search rules) c.in_err-hold.ensures.held)

pub returns-in_err-judge : goal.returns-in_err-judge
returns-in_err-judge c =
    let p = err_from_is_err_and c.from_residual-in_err-judge.result c.from_residual-in_err-judge.ensures.1 in
    let at : IsAt c.args.self.now.line.now c.if-run_ends.self c.if-run_ends.start c.loop-i.i =
    elim c.if-run_ends.branch [
      | then-run_ends+in_ok-hold w ↦
          rw (w.self-is, w.start-is) (ends_run _ _ _ _ c.loop-i.invariant _ c.loop-i-test.true (search rules) w.in_ok-hold.ensures.same_line w.in_ok-hold.ensures.room w.in_ok-hold.ensures.held)
      | else-run_ends w ↦ rw (w.self-is, w.start-is) (goes_on _ _ _ _ c.loop-i.invariant c.loop-i-test.true (search rules))
    ] in
    rw (p.1, p.2) (byte_fault _ _ _ _ at _ c.in_err-judge.ensures)

pub loop-i-preserved : goal.loop-i-preserved
loop-i-preserved c =
    let at : IsAt c.args.self.now.line.now c.if-run_ends.self c.if-run_ends.start c.loop-i.i =
    elim c.if-run_ends.branch [
      | then-run_ends+in_ok-hold w ↦
          rw (w.self-is, w.start-is) (ends_run _ _ _ _ c.loop-i.invariant _ c.loop-i-test.true (search rules) w.in_ok-hold.ensures.same_line w.in_ok-hold.ensures.room w.in_ok-hold.ensures.held)
      | else-run_ends w ↦ rw (w.self-is, w.start-is) (goes_on _ _ _ _ c.loop-i.invariant c.loop-i-test.true (search rules))
    ] in
    byte_sound _ _ _ _ at c.in_ok-judge.ensures

pub returns-in_err-hold-2 : goal.returns-in_err-hold-2
returns-in_err-hold-2 c =
    let p = err_from_is_err_and c.from_residual-in_err-hold-2.result c.from_residual-in_err-hold-2.ensures.1 in
    let e : c.loop-i.i ≡ length c.args.self.now.line.now = search rules in
    rw (p.1, p.2) (large_last _ _ _ (rw e at c.loop-i.invariant) _ c.in_err-hold-2.ensures.held)

pub returns : goal.returns
returns c =
    let e : c.loop-i.i ≡ length c.args.self.now.line.now = search rules in
    let cut = rw e at c.loop-i.invariant in
    search (rules, whole)
