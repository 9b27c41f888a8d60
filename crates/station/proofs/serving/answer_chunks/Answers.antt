use Rattle.std.proofs.Common.{rules, List, ℕ, [], refl, sym, subst}
use Rattle.network.specs.Net.{net}
use Rattle.book.specs.State.{tables}
use Rattle.desk.specs.Feeding.{desk}
use Rattle.desk.proofs.Going.{kept_then}
use Rattle.station.proofs.Reading.{Reads, reads_none, reads_on, reads_to_end}
use Rattle.station.proofs.serving.answer_chunks.Goals as goal

pub loop-init : goal.loop-init
loop-init g c =
    let w = net c.args.network.now in
    let x = tables c.args.book.now in
    let left = g.R.Read.remaining c.args.input.now in
    let held = g.W.Write.contents c.args.output.now in (
      record { counts = refl; mark = refl; lent = record { channels = refl; circuits = refl; spans = refl } },
      subst (λ (l : List ℕ). Reads w c.args.book.now.extent.counts (desk x []) left left held held (desk x l)) (sym c.new-line.ensures.empty) (reads_none w _ left held (desk x [])),
      c.new-out.ensures.bytes,
    )

pub returns-then-count-eq0-clause-ok : goal.returns-then-count-eq0-clause-ok
returns-then-count-eq0-clause-ok g c =
    let inv = c.loop.invariant in
    reads_to_end _ _ _ _ c.new-line.ensures.answered _ _ _ _ _ _ _ _ _ _ c.read.new.buf _ _ _ inv.0.counts (search rules) (search rules) inv.2 (search rules) inv.1 c.in_ok-count.ensures.bytes c.in_ok-finish.ensures.ok c.write_all.ensures.bytes

pub loop-preserved : goal.loop-preserved
loop-preserved g c =
    let inv = c.loop.invariant in (
      kept_then _ _ _ inv.0 c.in_ok-feed.ensures.kept,
      reads_on _ _ _ _ _ _ _ _ _ _ _ _ _ _ _ _ _ inv.0.counts (search rules) inv.2 (search rules) inv.1 c.in_ok-count.ensures.bytes.0 c.in_ok-feed.ensures.ok c.in_ok-write_all.ensures.bytes,
      c.clear.ensures.bytes,
    )
