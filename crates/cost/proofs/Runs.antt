-- The laws of one step, of whole runs of charges.
use Rattle.std.proofs.Common.{◌≡◌, ◌<◌, true, List, [], ◌∷◌, sym, ◌∙◌}
use Rattle.std.proofs.Math.Bool.{or_self}
use Rattle.network.specs.Tariffs.{absent}
use Rattle.cost.specs.Laws.{Ops, Laws}
use Rattle.cost.specs.Charges.{after, after_all, amount_of, AllTariffs}
use Rattle.cost.specs.declared.charge.Charge.{Charge}
use Rattle.cost.specs.declared.charge.Charge.TheVariants.{Span, Conversion}

module _ {V : Type 0} {o : Ops V} (laws : Laws o) where
  -- every value is at most itself
  pub reflexive : (a : V) → o.at_most a a ≡ true
  reflexive a = sym (or_self (o.at_most a a)) ∙ laws.total a a

  step_monotone : (a b : V) (c : Charge) → amount_of c < absent → o.at_most a b ≡ true → o.at_most (after o a c) (after o b c) ≡ true
  step_monotone a b (Span w) h e = laws.monotone.0 a b w h e
  step_monotone a b (Conversion w) h e = laws.monotone.1 a b w h e

  step_upward : (a : V) (c : Charge) → amount_of c < absent → o.at_most a (after o a c) ≡ true
  step_upward a (Span w) h = laws.upward.0 a w h
  step_upward a (Conversion w) h = laws.upward.1 a w h

  pub run_monotone : (cs : List Charge) → AllTariffs cs → (a b : V) → o.at_most a b ≡ true → o.at_most (after_all o a cs) (after_all o b cs) ≡ true
  run_monotone [] t a b e = e
  run_monotone (c ∷ cs) t a b e = run_monotone cs t.1 (after o a c) (after o b c) (step_monotone a b c t.0 e)

  pub run_upward : (cs : List Charge) → AllTariffs cs → (a : V) → o.at_most a (after_all o a cs) ≡ true
  run_upward [] t a = reflexive a
  run_upward (c ∷ cs) t a = laws.transitive a (after o a c) (after_all o (after o a c) cs) (step_upward a c t.0) (run_upward cs t.1 (after o a c))
