-- The ends of a span, as the network tells them.
use Rattle.std.proofs.Common.{◌≡◌, ℕ, Bool, true, false, List, take, Option, nat_lt, refl, sym, subst}
use Rattle.std.specs.Option.{IfSome}
use Rattle.std.proofs.lemmas.Bool.{ltb-true}
use Rattle.std.proofs.lemmas.List.{get_or-take}
use Rattle.network.specs.Extents.{given}
use Rattle.network.specs.Limits.{no_span, span_at, IsJoined, Joined}
use Rattle.network.specs.declared.counts.Counts.{Counts}
use Rattle.network.specs.declared.span.Span.{Span}

-- what is told of a span joins two different nodes
pub told_joined : (n : Counts) (ends : List Span) (e : ℕ) (r : Option Span) → Joined n ends → r ≡ given (nat_lt e n.spans) (span_at (take n.spans ends) e) → IfSome r (IsJoined n)
told_joined n ends e r joined is = subst (λ (o : Option Span). IfSome o (IsJoined n)) (sym is) (go (nat_lt e n.spans) refl)
  where
    go : (b : Bool) → nat_lt e n.spans ≡ b → IfSome (given b (span_at (take n.spans ends) e)) (IsJoined n)
    go true t = let h = ltb-true e n.spans t in subst (IsJoined n) (sym (get_or-take n.spans ends e no_span h)) (joined e h)
    go false t = tt
