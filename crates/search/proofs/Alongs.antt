-- Along a row of ways or exits: what stands there, and that what comes later charges no less.
use Rattle.std.proofs.Common.{◌≡◌, ◌≢◌, ◌⊎◌, ℕ, ◌<◌, ◌≤◌, Some, None, Option, refl, List, [], length, slice_index, slice_index_or, sym, ap, ◌∙◌, subst, ⊎_elim, arith}
use Rattle.std.proofs.lemmas.Bool.{true≢false, cases_lt}
use Rattle.std.proofs.lemmas.Bool.Decides.{nat_tests}
use Rattle.std.specs.Option.{IfSome, IsSome, unwrap_or}
use Rattle.network.specs.Tariffs.{absent}
use Rattle.network.proofs.Charged.{IfSome-converter_of}
use Rattle.std.proofs.lemmas.List.{get_or_default}
use Rattle.network.specs.Net.{Net, converter_of}
use Rattle.network.specs.Steps.{Within}
use Rattle.network.specs.declared.step.Step.{Step}
use Rattle.semilightpath.specs.declared.point.Point.{Point}
use Rattle.semilightpath.specs.Paths.{tail_of, Joins}
use Rattle.network.specs.Limits.{span_at}
use Rattle.network.proofs.Ways.{Ways-tail, Ways-all, Exits-all}
use Rattle.network.specs.Rows.{Ways, Exits, span_rate, exit_rate}

-- what stands within a list, whatever stands for what lies beyond
pub within : (row : List ℕ) (k d e : ℕ) → k < length row → slice_index_or row k d ≡ e → slice_index row k ≡ e
within row k d e l q = get_or_default row k 0 d l ∙ q

pub way_is : (w : Net) (u c : ℕ) (row : List ℕ) → Ways w u c row → (i : ℕ) → i < length row → (slice_index row i < w.counts.spans) × ((span_at w.ends (slice_index row i)).tail ≡ u)
way_is w u c row h i l = Ways-tail w u c row h i 0 l

pub way_to : (w : Net) (u c : ℕ) (row : List ℕ) → Ways w u c row → (e : ℕ) → e < w.counts.spans → (span_at w.ends e).tail ≡ u → (j : ℕ) × (j < length row) × (slice_index row j ≡ e)
way_to w u c row h e l t = let at = Ways-all w u c row h e l t in (at.0, at.1, within row at.0 e e at.1 at.2)

pub way_rises : (w : Net) (u c : ℕ) (row : List ℕ) → Ways w u c row → (i j : ℕ) → i ≤ j → j < length row → span_rate w c (slice_index row i) ≤ span_rate w c (slice_index row j)
way_rises w u c row h i j l m = h.rising i j 0 l m

pub exit_to : (w : Net) (u a : ℕ) (row : List ℕ) → Exits w u a row → (b : ℕ) → b < w.counts.channels → (j : ℕ) × (j < length row) × (slice_index row j ≡ b)
exit_to w u a row h b l = let at = Exits-all w u a row h b l in (at.0, at.1, within row at.0 b b at.1 at.2)

pub exit_rises : (w : Net) (u a : ℕ) (row : List ℕ) → Exits w u a row → (i j : ℕ) → i ≤ j → j < length row → exit_rate w u a (slice_index row i) ≤ exit_rate w u a (slice_index row j)
exit_rises w u a row h i j l m = h.rising i j 0 l m

-- the row that a network tells for a node and a channel
abbrev pub Wayed : Net → ℕ → ℕ → List ℕ → Type 0
Wayed w u c row = (c < w.counts.channels → Ways w u c row) × (w.counts.channels ≤ c → row ≡ [])

pub wayed_as : (v w : Net) (t u b c : ℕ) (row : List ℕ) → v ≡ w → t ≡ u → b ≡ c → Wayed v t b row → Wayed w u c row
wayed_as v w t u b c row p q r h = subst (λ x. Wayed x u c row) p (subst (λ x. Wayed v x c row) q (subst (λ x. Wayed v t x row) r h))

module _ (w : Net) (u c : ℕ) (row : List ℕ) (wayed : Wayed w u c row) where
  carried : (i : ℕ) → i < length row → c < w.counts.channels
  carried i l = ⊎_elim (λ m. m) (λ m. let none = ap {B = ℕ} length (wayed.1 m) in absurd (omega (arith, l, none))) (cases_lt c w.counts.channels)

  -- what stands there leaves the node
  pub way_tail : (i : ℕ) → i < length row → (span_at w.ends (slice_index row i)).tail ≡ u
  way_tail i l = (way_is w u c row (wayed.0 (carried i l)) i l).1

  -- each step that leaves the node on the channel stands there
  pub way_of : (e : Step) → Within w.counts e → e.channel ≡ c → tail_of w e ≡ u → (j : ℕ) × (j < length row) × (slice_index row j ≡ e.span)
  way_of e h q t = way_to w u c row (wayed.0 (subst (λ x. x < w.counts.channels) q h.1)) e.span h.0 t

  -- and what comes later charges no less
  pub way_later : (i j : ℕ) → i ≤ j → j < length row → span_rate w c (slice_index row i) ≤ span_rate w c (slice_index row j)
  way_later i j l m = way_rises w u c row (wayed.0 (carried j m)) i j l m

-- the row that a network tells for a node and a channel to convert from
abbrev pub Exited : Net → ℕ → ℕ → List ℕ → Type 0
Exited w u a row = u < w.counts.nodes → a < w.counts.channels → Exits w u a row

pub exited_as : (v w : Net) (t u b a : ℕ) (row : List ℕ) → v ≡ w → t ≡ u → b ≡ a → Exited v t b row → Exited w u a row
exited_as v w t u b a row p q r h = subst (λ x. Exited x u a row) p (subst (λ x. Exited v x a row) q (subst (λ x. Exited v t x row) r h))

converts_within : (w : Net) (u a b : ℕ) → IsSome (converter_of w u a b) → (u < w.counts.nodes) × (a < w.counts.channels) × (b < w.counts.channels)
converts_within w u a b h = grind (arith, nat_tests)

-- where a path goes on to another channel, the node converts into it
pub converts : (w : Net) (a : Point) (b c : ℕ) → a.entered ≡ Some b → c ≢ b → Joins w a c → IsSome (converter_of w a.node b c)
converts w a b c p ne joins = ⊎_elim (λ q. absurd (ne (sym q))) (λ s. s) (subst (λ z. IfSome z (λ b. (b ≡ c) ⊎ IsSome (converter_of w a.node b c))) p joins)

pub rated : (w : Net) (u a b : ℕ) → IsSome (converter_of w u a b) → (converter_of w u a b ≡ Some (exit_rate w u a b)) × (exit_rate w u a b < absent)
rated w u a b h = go (converter_of w u a b) h (IfSome-converter_of w u a b)
  where
    go : (x : Option ℕ) → IsSome x → IfSome x (λ v. v < absent) → (x ≡ Some (unwrap_or x absent)) × (unwrap_or x absent < absent)
    go None h k = absurd (true≢false (sym h))
    go (Some t) h k = (refl, k)

module _ (w : Net) (u a : ℕ) (row : List ℕ) (exited : Exited w u a row) (b : ℕ) (some : IsSome (converter_of w u a b)) where
  exits : Exits w u a row
  exits = let h = converts_within w u a b some in exited h.0 h.1

  -- each channel that the node converts into stands there
  pub exit_of : (j : ℕ) × (j < length row) × (slice_index row j ≡ b)
  exit_of = exit_to w u a row exits b (converts_within w u a b some).2

  -- and what comes later charges no less
  pub exit_later : (i j : ℕ) → i ≤ j → j < length row → exit_rate w u a (slice_index row i) ≤ exit_rate w u a (slice_index row j)
  exit_later i j l m = exit_rises w u a row exits i j l m
