-- One more request is served.
use Rattle.std.proofs.Common.{◌≡◌, ℕ, ◌+◌, ◌<◌, List, [], ◌∷◌, ◌++◌, length, get_or, set, take, Option, refl, sym, ap, subst, subst₂, ◌∙◌, arith}
use Rattle.std.proofs.lemmas.List.{take_more, take_more_set}
use Rattle.network.specs.declared.counts.Counts.{Counts}
use Rattle.network.specs.Net.{Net}
use Rattle.book.specs.declared.Book.{Book}
use Rattle.book.specs.declared.offer.Offer.{Offer}
use Rattle.book.specs.State.{Tables, Kept}
use Rattle.cabinet.specs.declared.reply.Reply.{Reply}
use Rattle.cabinet.specs.declared.request.Request.{Request}
use Rattle.cabinet.specs.declared.serving.Served.{Served}
use Rattle.cabinet.specs.declared.switch.Switch.{Switch}
use Rattle.cabinet.specs.Requests.{call_of}
use Rattle.cabinet.specs.Serving.{Stand, stand, Serves, Runs}

runs_last : (w : Net) (n : Counts) (m : ℕ) (s : Stand) (qs : List Request) (q : Request) (rs : List Reply) (mid : Stand) (d : Served) (y : Tables) (v : List Switch) → Runs w n m s qs rs mid → Serves w n m mid (call_of q) d y v
    → Runs w n m s (qs ++ q ∷ []) (rs ++ d.reply ∷ []) (stand y d.hand v)
runs_last w n m s [] q rs mid d y v h k =
    (d, [], y, v, ap (λ l. l ++ d.reply ∷ []) h.0, subst (λ (u : Stand). Serves w n m u (call_of q) d y v) h.1 k, (refl, refl))
runs_last w n m s (p ∷ qs) q rs mid d y v h k =
    (h.0, h.1 ++ d.reply ∷ [], h.2, h.3, ap (λ l. l ++ d.reply ∷ []) h.4, h.5, runs_last w n m (stand h.2 h.0.hand h.3) qs q h.1 mid d y v h.6 k)

-- request i of a list is served, and its reply stands in its place
pub runs_more : (w : Net) (n n' : Counts) (m m' : ℕ) (s mid : Stand) (qs : List Request) (q : Request) (i : ℕ) (e : Request) (rs : List Reply) (d : Served) (y : Tables) (v : List Switch)
    → n' ≡ n → m' ≡ m → i < length qs → length qs ≡ length rs → q ≡ get_or qs i e → Runs w n m s (take i qs) (take i rs) mid → Serves w n' m' mid (call_of q) d y v
    → Runs w n m s (take (i + 1) qs) (take (i + 1) (set rs i d.reply)) (stand y d.hand v)
runs_more w n n' m m' s mid qs q i e rs d y v counts mark h long is so_far k =
    let k' = subst₂ (λ (a : Counts) (b : ℕ). Serves w a b mid (call_of q) d y v) counts mark k in
    let k'' = subst (λ (a : Request). Serves w n m mid (call_of a) d y v) is k' in
    subst₂ (λ (a : List Request) (b : List Reply). Runs w n m s a b (stand y d.hand v)) (sym (take_more qs i e h)) (sym (take_more_set rs i d.reply (omega (arith, h, long))))
    (runs_last w n m s (take i qs) (get_or qs i e) (take i rs) mid d y v so_far k'')

pub kept_then : (a b c : Book) → Kept a b → Kept b c → Kept a c
kept_then a b c p q = record {
  counts = q.counts ∙ p.counts;
  mark = q.mark ∙ p.mark;
  lent = record {
    channels = q.lent.channels ∙ p.lent.channels;
    circuits = q.lent.circuits ∙ p.lent.circuits;
    spans = q.lent.spans ∙ p.lent.spans;
  };
}

-- a run at a book that has these counts, this mark and these tables
pub runs_from : (w : Net) (n n' : Counts) (m m' : ℕ) (x x' : Tables) (hand : Option Offer) (old : List Switch) (qs : List Request) (rs : List Reply) (t : Stand) → n ≡ n' → m ≡ m' → x ≡ x' → Runs w n m (stand x hand old) qs rs t → Runs w n' m' (stand x' hand old) qs rs t
runs_from w n n' m m' x x' hand old qs rs t counts mark same h =
    subst (λ (y : Tables). Runs w n' m' (stand y hand old) qs rs t) same (subst₂ (λ (a : Counts) (b : ℕ). Runs w a b (stand x hand old) qs rs t) counts mark h)
