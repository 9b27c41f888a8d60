-- The spans that enter a node are those whose head it is.
use Rattle.std.proofs.Common.{◌≡◌, ℕ, ◌+◌, ◌<◌, ◌≤◌, Bool, eqb, List, [], map, take, slice_range, sym, ap, ◌∙◌, subst, arith}
use Rattle.std.proofs.Math.ListN.{get_or-map}
use Rattle.std.specs.List.{range_with_len, All, Contains}
use Rattle.std.proofs.lemmas.List.{take-map}
use Rattle.std.proofs.lemmas.List.Elements.{All-filter, filter_agree, filter_passes}
use Rattle.std.proofs.lemmas.Bool.{eq-eqb, eqb-true}
use Rattle.network.proofs.Ranked.{All-range_with_len}
use Rattle.network.specs.declared.counts.Counts.{Counts}
use Rattle.network.specs.declared.span.Span.{Span}
use Rattle.network.specs.Limits.{IsJoined, Joined, span_at, no_span}
use Rattle.network.specs.Indexes.{leaving_by, start_at, Indexed, turned}
use Rattle.network.specs.Net.{Net}
use Rattle.network.specs.Rows.{entering_by, entering}
use Rattle.network.proofs.Leaving.{kept, Contains-from_Listed, row_is, no_row}

-- they leave it where the spans are turned
leaving_turned : (n : ℕ) (ends : List Span) (u : ℕ) → leaving_by n (map turned ends) u ≡ entering_by n ends u
leaving_turned n ends u = filter_agree (λ e. eqb (span_at (map turned ends) e).tail u) (λ e. eqb (span_at ends e).head u) (λ e. ap (λ (s : Span). eqb s.tail u) (get_or-map turned ends e no_span)) (range_with_len 0 n)

turned_taken : (n : ℕ) (ends : List Span) (u : ℕ) → leaving_by n (take n (map turned ends)) u ≡ entering_by n (take n ends) u
turned_taken n ends u = ap (λ l. leaving_by n l u) (take-map turned n ends) ∙ leaving_turned n (take n ends) u

turned_joined : (n : Counts) (ends : List Span) → Joined n ends → Joined n (map turned ends)
turned_joined n ends joined e h = let j = joined e h in subst (IsJoined n) (sym (get_or-map turned ends e no_span)) (j.1, j.0, λ same. j.2 (sym same))

module _ (w : Net) (u : ℕ) where
  -- each of them is a span of the network that has the node for its head
  pub entering_head : All (λ e. (e < w.counts.spans) × ((span_at w.ends e).head ≡ u)) (entering w u)
  entering_head k d h =
      (All-filter enters (λ e. e < w.counts.spans) (range_with_len 0 w.counts.spans) (All-range_with_len w.counts.spans) k d h, eqb-true _ _ (filter_passes enters (range_with_len 0 w.counts.spans) k d h))
    where
      enters : ℕ → Bool
      enters e = eqb (span_at w.ends e).head u

  -- each span whose head is the node is among them
  pub entering_all : (e : ℕ) → e < w.counts.spans → (span_at w.ends e).head ≡ u → Contains (entering w u) e
  entering_all e h t = Contains-from_Listed (entering w u) e (kept (λ e. eqb (span_at w.ends e).head u) 0 w.counts.spans e (omega arith) (omega arith) (eq-eqb _ _ t))

-- a node's row in an index of the spans turned
pub entering_row_is : (n : Counts) (ends : List Span) (order starts : List ℕ) (u start end : ℕ) → Indexed n (map turned ends) order starts → u < n.nodes → start ≡ start_at starts u → end ≡ start_at starts (u + 1)
    → slice_range order start end ≡ entering_by n.spans (take n.spans ends) u
entering_row_is n ends order starts u start end indexed h from to = row_is n (map turned ends) order starts u start end indexed h from to ∙ turned_taken n.spans ends u

-- no span enters what is no node
pub no_entering_row : (n : Counts) (ends : List Span) (u : ℕ) → Joined n ends → n.nodes ≤ u → [] ≡ entering_by n.spans (take n.spans ends) u
no_entering_row n ends u joined h = no_row n (map turned ends) u (turned_joined n ends joined) h ∙ turned_taken n.spans ends u
