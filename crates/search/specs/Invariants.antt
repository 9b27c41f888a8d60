-- What a search keeps true of its labels.
use Rattle.std.specs.Prelude.{◌≡◌, ℕ, Bool, true, false, not, ◌&&◌, ◌||◌, ◌⊎◌, ◌≢◌, List, [], ◌∷◌, Some, Option, ◌==◌}
use Rattle.std.specs.List.{AllByRecursion}
use Rattle.std.specs.Option.{IfSome}
use Rattle.network.specs.Net.{Net}
use Rattle.network.specs.declared.step.Step.{Step}
use Rattle.cost.specs.Laws.{Ops}
use Rattle.semilightpath.specs.declared.point.Point.{Point}
use Rattle.semilightpath.specs.Scenes.{Scene}
use Rattle.semilightpath.specs.Paths.{begin, past, Joins, GoesOn, Goes, end_of}
use Rattle.semilightpath.specs.Costs.{left, after_step, cost}
use Rattle.search.specs.declared.arrival.Arrival.{Arrival}
use Rattle.search.specs.declared.label.Known.{Known}
use Rattle.search.specs.declared.goal.Goal.{Goal}
use Rattle.search.specs.Goals.{is_bound}
use Rattle.search.specs.Labels.{Labels, cost_of, is_settled, back, arrival, arrival_of, point_of}

-- the same arrival
abbrev pub same : Arrival → Arrival → Bool
same x y = x.node == y.node && x.channel == y.channel

-- a path arrives at x
abbrev pub arrives : Net → Arrival → List Step → Bool
arrives w x [] = false
arrives w x (e ∷ p) = same x (arrival_of w e) || arrives w x p

-- a path arrives nowhere twice
abbrev pub apart : Net → List Step → Bool
apart w [] = true
apart w (e ∷ p) = not (arrives w (arrival_of w e) p) && apart w p

-- an arrival is known, at no more than v
abbrev pub KnownAtMost : {V : Type 0} → Ops V → Labels V → Arrival → V → Type 0
KnownAtMost {V} o ls x v = (u : V) × (cost_of (ls x) ≡ Some u) × (o.at_most u v ≡ true)

abbrev pub IsSettled : {V : Type 0} → Labels V → Arrival → Type 0
IsSettled ls x = is_settled (ls x) ≡ true

-- the labels lead from b along a path to a: where a step arrives, the label has the step and where it goes on from
abbrev pub Leads : {V : Type 0} → Net → Labels V → Point → List Step → Point → Type 0
Leads w ls b [] a = b ≡ a
Leads w ls b (e ∷ p) a = (back (ls (arrival_of w e)) ≡ Some (e, b)) × Leads w ls (past w e) p a

-- a path from s to the point a that costs v; the labels lead along it, and it arrives only where P holds, nowhere twice
pub record Route {V : Type 0} (o : Ops V) (g : Scene) (s : ℕ) (ls : Labels V) (P : Arrival → Type 0) (a : Point) (v : V) : Type 0 where
  pub path : List Step
  pub goes : Goes g (begin s) path
  pub ends : end_of g.net (begin s) path ≡ a
  pub costs : cost o g path ≡ v
  pub leads : Leads g.net ls (begin s) path a
  pub over : AllByRecursion (λ e. P (arrival_of g.net e)) path
  pub once : apart g.net path ≡ true

-- to each known arrival leads such a path, over settled ones but for itself; and no settled one costs more than an open one
pub record Sound {V : Type 0} (o : Ops V) (g : Scene) (s : ℕ) (ls : Labels V) : Type 0 where
  pub reach : (x : Arrival) (v : V) → cost_of (ls x) ≡ Some v → Route o g s ls (λ y. IsSettled ls y ⊎ (y ≡ x)) (point_of x) v
  pub order : (x y : Arrival) (v w : V) → is_settled (ls x) ≡ true → is_settled (ls y) ≡ false → cost_of (ls x) ≡ Some v → cost_of (ls y) ≡ Some w → o.at_most v w ≡ true

-- some arrival at t is known, at no more than v
abbrev pub ReachedAtMost : {V : Type 0} → Ops V → Labels V → ℕ → V → Type 0
ReachedAtMost o ls t v = (y : Arrival) × (y.node ≡ t) × KnownAtMost o ls y v

-- the best arrival at a goal is known, and none there costs less
pub record Bounds {V : Type 0} (o : Ops V) (ls : Labels V) (h : Goal V) : Type 0 where
  pub known : IfSome h.best (λ b. cost_of (ls (arrival h.node b.channel)) ≡ Some b.cost)
  pub nearest : (y : Arrival) (v : V) → y.node ≡ h.node → cost_of (ls y) ≡ Some v → is_bound o h.best v ≡ true

-- no open arrival costs less than the best at the goal
abbrev pub IsReached : {V : Type 0} → Ops V → Labels V → Goal V → Type 0
IsReached {V} o ls h = (y : Arrival) (v : V) → is_settled (ls y) ≡ false → cost_of (ls y) ≡ Some v → is_bound o h.best v ≡ true

-- a's node is known to be entered on another channel than it was, on c, and to be left on it at no more
abbrev pub LeftAtMost : {V : Type 0} → Ops V → Scene → Labels V → Point → V → ℕ → Type 0
LeftAtMost o g ls a v c = (a.entered ≢ Some c) × KnownAtMost o ls (arrival a.node c) (left o g.net a v c)

-- the step e from a, where a path costs v, need not be tried any more: no more is known where it arrives, or of t, or where it leaves on its channel
abbrev pub Covered : {V : Type 0} → Ops V → Scene → ℕ → Labels V → Point → V → Step → Type 0
Covered o g t ls a v e =
    (KnownAtMost o ls (arrival_of g.net e) (after_step o g a.entered v e) ⊎ ReachedAtMost o ls t (after_step o g a.entered v e))
    ⊎ LeftAtMost o g ls a v e.channel

-- no step that goes on from a, where a path costs v, need be tried any more
abbrev pub Covers : {V : Type 0} → Ops V → Scene → ℕ → Labels V → Point → V → Type 0
Covers o g t ls a v = (e : Step) → GoesOn g a e → Covered o g t ls a v e

-- from a, where a path over settled arrivals costs v, steps may be tried: no settled arrival costs more
pub record Ready {V : Type 0} (o : Ops V) (g : Scene) (s : ℕ) (ls : Labels V) (a : Point) (v : V) : Type 0 where
  pub sound : Sound o g s ls
  pub route : Route o g s ls (IsSettled ls) a v
  pub top : (x : Arrival) (w : V) → is_settled (ls x) ≡ true → cost_of (ls x) ≡ Some w → o.at_most w v ≡ true

-- labels only fell, and none was settled or, being settled, changed
pub record Moved {V : Type 0} (o : Ops V) (ls ms : Labels V) : Type 0 where
  pub lower : (x : Arrival) (v : V) → cost_of (ls x) ≡ Some v → KnownAtMost o ms x v
  pub flags : (x : Arrival) → is_settled (ms x) ≡ is_settled (ls x)
  pub fixed : (x : Arrival) → is_settled (ls x) ≡ true → ms x ≡ ls x

-- nothing is settled, and nothing unsettled
abbrev pub KeepsSettled : {V : Type 0} → Labels V → Labels V → Type 0
KeepsSettled ls ms = (x : Arrival) → is_settled (ms x) ≡ is_settled (ls x)

-- what is true between one settling and the next, with the goal t
pub record Searching {V : Type 0} (o : Ops V) (g : Scene) (s : ℕ) (t : ℕ) (ls : Labels V) : Type 0 where
  pub sound : Sound o g s ls
  pub first : Covers o g t ls (begin s) o.start
  pub closed : (x : Arrival) (v : V) → IsSettled ls x → cost_of (ls x) ≡ Some v → Covers o g t ls (point_of x) v

-- one label was written
pub record Written {V : Type 0} (ls ms : Labels V) (x : Arrival) (l : Option (Known V)) : Type 0 where
  pub there : ms x ≡ l
  pub others : (y : Arrival) → y ≢ x → ms y ≡ ls y

-- x is known and open, at v, and no open arrival costs less
pub record IsLeast {V : Type 0} (o : Ops V) (ls : Labels V) (x : Arrival) (v : V) : Type 0 where
  pub known : cost_of (ls x) ≡ Some v
  pub unsettled : is_settled (ls x) ≡ false
  pub least : (y : Arrival) (w : V) → is_settled (ls y) ≡ false → cost_of (ls y) ≡ Some w → o.at_most v w ≡ true

-- no arrival at t is settled
abbrev pub NotYet : {V : Type 0} → ℕ → Labels V → Type 0
NotYet t ls = (x : Arrival) → x.node ≡ t → is_settled (ls x) ≡ false

-- from labels ls to labels ms, those steps from a that Q tells were tried, where a path costs v, and the goal is k then
pub record Tried {V : Type 0} (o : Ops V) (g : Scene) (s : ℕ) (k : Goal V) (ls ms : Labels V) (a : Point) (v : V) (Q : Step → Type 0) : Type 0 where
  pub moved : Moved o ls ms
  pub ready : Ready o g s ms a v
  pub bounds : Bounds o ms k
  pub covers : (e : Step) → GoesOn g a e → Q e → Covered o g k.node ms a v e

-- they are tried, wherever the path to a began
abbrev pub Tries : {V : Type 0} → Ops V → Scene → Goal V → Goal V → Labels V → Labels V → Point → V → (Step → Type 0) → Type 0
Tries o g h k ls ms a v Q = (s : ℕ) → Ready o g s ls a v → Bounds o ls h → Tried o g s k ls ms a v Q

-- they are tried from a, wherever a path costs v there and u once a is left on the channel c
abbrev pub TriesOn : {V : Type 0} → Ops V → Scene → Goal V → Goal V → Labels V → Labels V → Point → V → ℕ → (Step → Type 0) → Type 0
TriesOn {V} o g h k ls ms a u c Q = (v : V) → u ≡ left o g.net a v c → Joins g.net a c → Tries o g h k ls ms a v Q
