-- A path is laid from its last step to its first.
use Rattle.std.proofs.Common.{◌≡◌, ℕ, ◌+◌, ◌-◌, ◌<◌, ◌≤◌, List, [], ◌∷◌, ◌++◌, length, Some, None, Option, append_assoc, append-nil, refl, sym, ap, ◌∙◌, arith}
use Rattle.network.specs.declared.counts.Counts.{Counts}
use Rattle.network.specs.declared.step.Step.{Step}
use Rattle.semilightpath.specs.declared.point.Point.{Point}
use Rattle.records.specs.Chains.{Channel}
use Rattle.records.specs.Changes.{first_step, written, taken}
use Rattle.search.specs.Labels.{Labels, back_from, trail}
use Rattle.search.proofs.Backs.{trail_none, trail_back}

-- the end q of a path P is laid, and the labels lead on along the rest, of at most m steps, from a point
pub record Laying {V : Type 0} (ls : Labels V) (n : Counts) (c : ℕ) (P : List Step) (old channels : List Channel) (next : Option Step) (count m : ℕ) (a : Point) : Type 0 where
  pub q : List Step
  pub rest : P ≡ trail ls m a ++ q
  pub leads : next ≡ first_step q
  pub holds : channels ≡ taken n c q old
  pub long : count ≡ length q

-- nothing is laid at first
pub laying_begins : {V : Type 0} (ls : Labels V) (n : Counts) (c m k : ℕ) (old : List Channel) (a : Point) → m ≡ k → Laying ls n c (trail ls m a) old old None 0 k a
laying_begins ls n c m k old a e = record { q = []; rest = ap (λ j. trail ls j a) e ∙ sym (append-nil (trail ls k a)); leads = refl; holds = refl; long = refl }

-- one step more is laid
pub laying_more : {V : Type 0} (ls : Labels V) (n : Counts) (c : ℕ) (P : List Step) (old channels channels' : List Channel) (next : Option Step) (limit count : ℕ) (a : Point) (l : Option (Step × Point)) (r : Step × Point) → count < limit → l ≡ back_from ls a.node a.entered → l ≡ Some r
    → channels' ≡ written n channels r.0 (Some (record { circuit = c; next = next })) → Laying ls n c P old channels next count (limit - count) a
    → Laying ls n c P old channels' (Some r.0) (count + 1) (limit - (count + 1)) r.1
laying_more ls n c P old channels channels' next limit count a l r h is e w inv =
    let less : limit - count - 1 ≡ limit - (count + 1) = omega arith in
    let some : 1 ≤ limit - count = omega arith in
    let back = trail_back ls (limit - count) a r some (sym is ∙ e) ∙ ap (λ m. trail ls m r.1 ++ r.0 ∷ []) less in
    record {
      q = r.0 ∷ inv.q;
      rest = inv.rest ∙ ap (λ t. t ++ inv.q) back ∙ append_assoc (trail ls (limit - (count + 1)) r.1) (r.0 ∷ []) inv.q;
      leads = refl;
      holds = w ∙ ap (λ t. written n t r.0 (Some (record { circuit = c; next = next }))) inv.holds ∙ ap (λ x. written n (taken n c inv.q old) r.0 (Some (record { circuit = c; next = x }))) inv.leads;
      long = omega (arith, inv.long);
    }

-- the path is laid
pub record IsLaid (n : Counts) (c : ℕ) (P : List Step) (old channels : List Channel) (first : Option Step) (steps : ℕ) : Type 0 where
  pub holds : channels ≡ taken n c P old
  pub leads : first ≡ first_step P
  pub long : steps ≡ length P

laid_whole : {V : Type 0} (ls : Labels V) (n : Counts) (c : ℕ) (P : List Step) (old channels : List Channel) (next : Option Step) (count m : ℕ) (a : Point) → trail ls m a ≡ [] → Laying ls n c P old channels next count m a → IsLaid n c P old channels next count
laid_whole ls n c P old channels next count m a none inv =
    let whole : inv.q ≡ P = sym (inv.rest ∙ ap (λ t. t ++ inv.q) none) in
    record { holds = inv.holds ∙ ap (λ q. taken n c q old) whole; leads = inv.leads ∙ ap first_step whole; long = inv.long ∙ ap length whole }

-- it is where the labels lead no further back
pub laid_back : {V : Type 0} (ls : Labels V) (n : Counts) (c : ℕ) (P : List Step) (old channels : List Channel) (next : Option Step) (count m : ℕ) (a : Point) (l : Option (Step × Point)) → l ≡ back_from ls a.node a.entered → l ≡ None → Laying ls n c P old channels next count m a → IsLaid n c P old channels next count
laid_back ls n c P old channels next count m a l is e inv = laid_whole ls n c P old channels next count m a (trail_none ls m a (sym is ∙ e)) inv

-- and where no step is left
pub laid_long : {V : Type 0} (ls : Labels V) (n : Counts) (c : ℕ) (P : List Step) (old channels : List Channel) (next : Option Step) (limit count : ℕ) (a : Point) → limit ≤ count → Laying ls n c P old channels next count (limit - count) a → IsLaid n c P old channels next count
laid_long ls n c P old channels next limit count a h inv =
    let none : limit - count ≡ 0 = omega arith in
    laid_whole ls n c P old channels next count (limit - count) a (ap (λ m. trail ls m a) none) inv
