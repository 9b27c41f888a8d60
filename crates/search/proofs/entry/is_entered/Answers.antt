use Rattle.std.proofs.Common.{◌≡◌, slice_index, sym, ap, ◌∙◌, subst, arith}
use Rattle.std.proofs.lemmas.Bool.{true≢false}
use Rattle.std.specs.List.{Contains}
use Rattle.std.specs.Option.{is_some}
use Rattle.network.specs.Net.{net}
use Rattle.network.specs.Rows.{entering}
use Rattle.network.specs.Steps.{step}
use Rattle.network.proofs.Entering.{entering_all}
use Rattle.search.proofs.Alongs.{within}
use Rattle.search.proofs.entry.is_entered.Goals as goal

pub returns : goal.returns
returns g c = λ none e usable at.
    let a = c.args in
    let over = g.F.Fares.over a.fares.now in
    let row = c.entering-span-items.result.now in
    let is : entering over a.node ≡ row = sym (c.entering-span-items.ensures ∙ ap (λ n. entering (net c.network.result.now) n) c.from.ensures ∙ ap (λ w. entering w a.node) c.network.ensures) in
    let on = subst (λ xs. Contains xs e.span) is (entering_all over a.node e.span usable.0.0 at) in
    let here : slice_index row on.0 ≡ e.span = within row on.0 e.span e.span on.1 on.2 in
    let below = on.1 in
    let free = c.loop-span.invariant on.0 e.channel (omega (arith, below, c.loop-span-test.false)) usable.0.1 in
    true≢false (sym usable.1 ∙ ap (λ n. is_some (g.F.Fares.fare a.fares.now (step n e.channel))) (sym here) ∙ ap is_some free)
