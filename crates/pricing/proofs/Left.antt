-- A standing path is priced step by step, along its chain.
use Rattle.std.proofs.Common.{◌≡◌, ℕ, zero, suc, ◌+◌, ◌-◌, ◌<◌, Some, None, Option, List, sym, ◌∙◌, ap, subst, arith}
use Rattle.std.proofs.lemmas.List.Sums.{fold-append}
use Rattle.network.specs.declared.counts.Counts.{Counts}
use Rattle.network.specs.declared.step.Step.{Step}
use Rattle.cost.specs.Laws.{Ops}
use Rattle.cost.specs.Charges.{after, after_all}
use Rattle.records.specs.Chains.{Channel, channel_at, chain, next}
use Rattle.semilightpath.specs.Scenes.{Scene}
use Rattle.semilightpath.specs.Costs.{step_charges, charges, after_step}

-- what is left of a chain, m steps of it from one on, brings the value v to the total r
abbrev pub Comes : {V : Type 0} → Ops V → Scene → Counts → List Channel → V → V → Option ℕ → ℕ → Option Step → Type 0
Comes o g n channels r v b m at = after_all o v (charges g b (chain n channels m at)) ≡ r

module _ {V : Type 0} (o : Ops V) (g : Scene) (n : Counts) (channels : List Channel) (r : V) where
  -- one step more is charged
  pub comes_one : (v v' : V) (b : Option ℕ) (steps i : ℕ) (at at' : Option Step) (s : Step) → i < steps → at ≡ Some s → v' ≡ after_step o g b v s → at' ≡ next (channel_at n channels s) → Comes o g n channels r v b (steps - i) at → Comes o g n channels r v' (Some s.channel) (steps - (i + 1)) at'
  unfolding chain
  comes_one v v' b steps i at at' s h e w f left =
      let more : steps - i ≡ suc (steps - (i + 1)) = omega arith in
      let here : Comes o g n channels r v b (suc (steps - (i + 1))) (Some s) = subst (λ m. Comes o g n channels r v b m (Some s)) more (subst (Comes o g n channels r v b (steps - i)) e left) in
      let rest = charges g (Some s.channel) (chain n channels (steps - (i + 1)) (next (channel_at n channels s))) in
      subst (λ a. Comes o g n channels r v' (Some s.channel) (steps - (i + 1)) a) (sym f)
      (ap (λ u. after_all o u rest) w ∙ sym (fold-append (after o) v (step_charges g b s) rest) ∙ here)

  pub comes_all : (v : V) (b : Option ℕ) (m : ℕ) (at : Option Step) → m ≡ 0 → Comes o g n channels r v b m at → v ≡ r
  unfolding chain
  comes_all v b m at e left = subst (λ k. Comes o g n channels r v b k at) e left

  none_left : (v : V) (b : Option ℕ) (m : ℕ) → Comes o g n channels r v b m None → v ≡ r
  unfolding chain
  none_left v b zero left = left
  none_left v b (suc m) left = left

  -- where the chain ends, nothing is left
  pub comes_none : (v : V) (b : Option ℕ) (m : ℕ) (at : Option Step) → at ≡ None → Comes o g n channels r v b m at → v ≡ r
  comes_none v b m at e left = none_left v b m (subst (Comes o g n channels r v b m) e left)
