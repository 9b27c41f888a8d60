use Rattle.std.proofs.Common.{◌≡◌, true, sym, subst}
use Rattle.cost.specs.Charges.{after_all}
use Rattle.cost.proofs.Runs.{run_monotone, run_upward}
use Rattle.cost.proofs.charge.after_all.Goals as goal

pub returns : goal.returns
returns g c =
    let o = g.K.Kind.ops in
    let laws = g.met.K.Kind.laws in
    let v = c.args.value in
    let cs = c.args.charges.now in
    record {
      is = c.added.ensures;
      order = λ t u e. subst (λ r. o.at_most (after_all o u cs) r ≡ true) (sym c.added.ensures) (run_monotone laws cs t u v e);
      upward = λ t. subst (λ r. o.at_most v r ≡ true) (sym c.added.ensures) (run_upward laws cs t v);
    }
