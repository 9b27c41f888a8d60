use Rattle.std.proofs.Common.{◌≡◌, Ok, ap, ◌∙◌}
use Rattle.network.specs.declared.counts.Counts.{Counts}
use Rattle.book.specs.State.{Tables, contents}
use Rattle.book.specs.Opening.{room}
use Rattle.book.proofs.Opened.{opened_long, opened_sound}
use Rattle.book.proofs.Book.open.Goals as goal

pub invariant_of-result : goal.invariant_of-result
invariant_of-result c =
    let n : Counts = c.extent-extent.result.counts in
    let before : Tables = contents c.args.lent in
    let after : Tables = contents c.clear.new.self in
    let e : room n before ≡ Ok tt = ap (λ (m : Counts). room m before) c.extent-extent.ensures ∙ c.requires in
    let long = opened_long n before after e c.clear.ensures.contents in
    let sound = opened_sound n before after e c.clear.ensures.contents in
    record { wide = long.0; rows = long.1; spanned = long.2; within = sound.within; apart = sound.apart; whole = sound.whole; named = sound.named }
