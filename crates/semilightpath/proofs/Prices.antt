-- A step's charges are tariffs, so by the laws of a kind a step keeps the order and makes no value less.
use Rattle.std.specs.Option.{IfSome, unwrap_or}
use Rattle.std.proofs.Common.{◌≡◌, ℕ, ◌<◌, Bool, true, false, cond, List, [], ◌∷◌, ◌++◌, Some, None, Option, ◌==◌, refl, sym, ap, ◌∙◌, subst, arith}
use Rattle.std.proofs.lemmas.Bool.{eq-eqb}
use Rattle.std.proofs.lemmas.List.Sums.{fold-append}
use Rattle.network.specs.Net.{converter_of}
use Rattle.network.specs.Tariffs.{absent}
use Rattle.network.proofs.Charged.{IfSome-converter_of}
use Rattle.network.specs.declared.step.Step.{Step}
use Rattle.cost.specs.Laws.{Ops, Laws}
use Rattle.cost.specs.Charges.{after, after_all, AllTariffs}
use Rattle.cost.proofs.Runs.{run_monotone, run_upward}
use Rattle.cost.specs.declared.charge.Charge.{Charge}
use Rattle.cost.specs.declared.charge.Charge.TheVariants.{Span, Conversion}
use Rattle.semilightpath.specs.declared.point.Point.{Point}
use Rattle.semilightpath.specs.Scenes.{Scene}
use Rattle.semilightpath.specs.Paths.{tail_of}
use Rattle.semilightpath.specs.Costs.{largest_tariff, conversion, left, step_charges, charges, after_step}

-- a tariff, or the largest in its place
charged_or : (x : Option ℕ) → IfSome x (λ w. w < absent) → unwrap_or x largest_tariff < absent
charged_or None h = omega arith
charged_or (Some w) h = h

both_tariffs : (cs ds : List Charge) → AllTariffs cs → AllTariffs ds → AllTariffs (cs ++ ds)
both_tariffs [] ds h k = k
both_tariffs (c ∷ cs) ds h k = (h.0, both_tariffs cs ds h.1 k)

module _ {V : Type 0} {o : Ops V} (laws : Laws o) (g : Scene) (charged : (e : Step) → IfSome (g.fare e) (λ w. w < absent)) where
  step_tariffs : (b : Option ℕ) (e : Step) → AllTariffs (step_charges g b e)
  step_tariffs None e = (charged_or (g.fare e) (charged e), tt)
  step_tariffs (Some b) e = go (b == e.channel)
    where
      c : ℕ
      c = unwrap_or (converter_of g.net (tail_of g.net e) b e.channel) largest_tariff

      go : (t : Bool) → AllTariffs (cond t [] (Conversion c ∷ []) ++ Span (unwrap_or (g.fare e) largest_tariff) ∷ [])
      go true = (charged_or (g.fare e) (charged e), tt)
      go false = (charged_or (converter_of g.net (tail_of g.net e) b e.channel) (IfSome-converter_of g.net (tail_of g.net e) b e.channel), (charged_or (g.fare e) (charged e), tt))

  fare_tariff : (e : Step) → unwrap_or (g.fare e) largest_tariff < absent
  fare_tariff e = charged_or (g.fare e) (charged e)

  -- a step charges a span, after what leaving on its channel charges
  pub step_left : (b : Option ℕ) (v : V) (e : Step) → after_step o g b v e ≡ o.span (after_all o v (conversion g.net (tail_of g.net e) b e.channel)) (unwrap_or (g.fare e) largest_tariff)
  step_left b v e = fold-append (after o) v (conversion g.net (tail_of g.net e) b e.channel) (Span (unwrap_or (g.fare e) largest_tariff) ∷ [])

  -- so whoever has left at u has no more after the step
  pub left_upward : (a : Point) (v : V) (e : Step) (u : V) → tail_of g.net e ≡ a.node → o.at_most u (left o g.net a v e.channel) ≡ true → o.at_most u (after_step o g a.entered v e) ≡ true
  left_upward a v e u h m =
      let l = left o g.net a v e.channel in
      let w = unwrap_or (g.fare e) largest_tariff in
      let is : after_step o g a.entered v e ≡ o.span l w = step_left a.entered v e ∙ ap (λ n. o.span (after_all o v (conversion g.net n a.entered e.channel)) w) h in
      subst (λ (z : V). o.at_most u z ≡ true) (sym is) (laws.transitive u l (o.span l w) m (laws.upward.0 l w (fare_tariff e)))

  -- and no more than who comes on the step's channel at no more, and takes the step
  pub left_monotone : (a : Point) (v : V) (e : Step) (u : V) → tail_of g.net e ≡ a.node → o.at_most u (left o g.net a v e.channel) ≡ true → o.at_most (after_step o g (Some e.channel) u e) (after_step o g a.entered v e) ≡ true
  left_monotone a v e u h m =
      let l = left o g.net a v e.channel in
      let w = unwrap_or (g.fare e) largest_tariff in
      let is : after_step o g a.entered v e ≡ o.span l w = step_left a.entered v e ∙ ap (λ n. o.span (after_all o v (conversion g.net n a.entered e.channel)) w) h in
      let on : after_step o g (Some e.channel) u e ≡ o.span u w = step_left (Some e.channel) u e ∙ ap (λ b. o.span (after_all o u (cond b [] (Conversion (unwrap_or (converter_of g.net (tail_of g.net e) e.channel e.channel) largest_tariff) ∷ []))) w) (eq-eqb e.channel e.channel refl) in
      subst (λ (z : V). o.at_most z (after_step o g a.entered v e) ≡ true) (sym on) (subst (λ (z : V). o.at_most (o.span u w) z ≡ true) (sym is) (laws.monotone.0 u l w (fare_tariff e) m))

  pub step_upward : (b : Option ℕ) (v : V) (e : Step) → o.at_most v (after_step o g b v e) ≡ true
  step_upward b v e = run_upward laws (step_charges g b e) (step_tariffs b e) v

  pub step_monotone : (b : Option ℕ) (v w : V) (e : Step) → o.at_most v w ≡ true → o.at_most (after_step o g b v e) (after_step o g b w e) ≡ true
  step_monotone b v w e h = run_monotone laws (step_charges g b e) (step_tariffs b e) v w h

  pub charges_tariffs : (b : Option ℕ) (p : List Step) → AllTariffs (charges g b p)
  charges_tariffs b [] = tt
  charges_tariffs b (e ∷ p) = both_tariffs (step_charges g b e) (charges g (Some e.channel) p) (step_tariffs b e) (charges_tariffs (Some e.channel) p)

  pub charges_upward : (b : Option ℕ) (v : V) (p : List Step) → o.at_most v (after_all o v (charges g b p)) ≡ true
  charges_upward b v p = run_upward laws (charges g b p) (charges_tariffs b p) v
