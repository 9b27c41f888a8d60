-- Changes that are made one after the other.
use Rattle.std.proofs.Common.{◌≡◌, ℕ, Bool, List, [], ◌∷◌, ◌++◌, Option, refl, sym, ap, ◌∙◌}
use Rattle.network.specs.declared.counts.Counts.{Counts}
use Rattle.records.specs.Standing.{Standing}
use Rattle.moment.specs.Usable.{span_is_open}
use Rattle.book.specs.State.{Tables}
use Rattle.book.specs.Changes.{Change, changed, changed_by, stands_after, stands_after_all, open_after, open_after_all, standing_in, Makes}

changed_then : (n : Counts) (hs ks : List Change) (x : Tables) → changed_by n (hs ++ ks) x ≡ changed_by n ks (changed_by n hs x)
changed_then n [] ks x = refl
changed_then n (h ∷ hs) ks x = changed_then n hs ks (changed n h x)

stands_then : (hs ks : List Change) (f : ℕ → Option Standing) → stands_after_all (hs ++ ks) f ≡ stands_after_all ks (stands_after_all hs f)
stands_then [] ks f = refl
stands_then (h ∷ hs) ks f = stands_then hs ks (stands_after h f)

open_then : (hs ks : List Change) (f : ℕ → Bool) → open_after_all (hs ++ ks) f ≡ open_after_all ks (open_after_all hs f)
open_then [] ks f = refl
open_then (h ∷ hs) ks f = open_then hs ks (open_after h f)

pub makes_then : (n : Counts) (hs ks : List Change) (x y z : Tables) → Makes n hs x y → Makes n ks y z → Makes n (hs ++ ks) x z
makes_then n hs ks x y z a b =
    let open_same : span_is_open y.spans ≡ open_after_all hs (span_is_open x.spans) = λ i e. a.opens e i in
    let same : standing_in n y ≡ stands_after_all hs (standing_in n x) = λ i c. a.stands c i in
    record {
      tables = b.tables ∙ ap (changed_by n ks) a.tables ∙ sym (changed_then n hs ks x);
      stands = λ c. b.stands c ∙ ap (λ f. stands_after_all ks f c) same ∙ sym (ap (λ f. f c) (stands_then hs ks (standing_in n x)));
      opens = λ e. b.opens e ∙ ap (λ f. open_after_all ks f e) open_same ∙ sym (ap (λ f. f e) (open_then hs ks (span_is_open x.spans)));
    }
