-- The table of a search: cleared, nothing is known, and a label that is written changes no other.
use Rattle.std.proofs.Common.{◌≡◌, ℕ, ◌/◌, ◌%◌, ◌<◌, ◌≤◌, List, length, drop, min, None, Option, replicate, slice_index_or, slice_set, ◌≢◌, ◌⊎◌, inl, inr, ⊎_elim, sym, ap, ap₂, ◌∙◌, arith}
use Rattle.std.proofs.lemmas.Bool.{cases_lt}
use Rattle.std.proofs.lemmas.Bool.Decides.{nat_tests}
use Rattle.std.proofs.lemmas.Grind.{common_steps, elements}
use Rattle.std.proofs.lemmas.List.{get_or_append_left, get_or-replicate, get_or_past, length-replicate}
use Rattle.network.proofs.Filled.{length-filled}
use Rattle.std.proofs.lemmas.Nat.{mul-add-lt, div-mul-add, mod-mul-add}
use Rattle.std.proofs.lemmas.Nat.{mul-le}
use Rattle.network.specs.Extents.{Counted}
use Rattle.network.specs.Tariffs.{arrival_entries, arrival_entry}
use Rattle.network.specs.declared.counts.Counts.{Counts}
use Rattle.search.specs.declared.arrival.Arrival.{Arrival}
use Rattle.search.specs.declared.label.Known.{Known}
use Rattle.network.specs.Tables.{filled}
use Rattle.search.specs.Labels.{IsInside, arrival, labels_in, settle}

-- arrivals of the network that differ stand in different places
pub entry_apart : (n : Counts) (x y : Arrival) → IsInside n x → IsInside n y → x ≢ y → arrival_entry n x.node x.channel ≢ arrival_entry n y.node y.channel
entry_apart n x y hx hy ne e =
    let p : x.node ≡ y.node = sym (div-mul-add x.node n.channels x.channel hx.1) ∙ ap (λ z. z / n.channels) e ∙ div-mul-add y.node n.channels y.channel hy.1 in
    let q : x.channel ≡ y.channel = sym (mod-mul-add x.node n.channels x.channel hx.1) ∙ ap (λ z. z % n.channels) e ∙ mod-mul-add y.node n.channels y.channel hy.1 in
    ne (ap₂ arrival p q)

inside_or : (n : Counts) (x : Arrival) → IsInside n x ⊎ (IsInside n x → ⊥)
inside_or n x = grind arith

pub written_label : {V : Type 0} (n : Counts) (table : List (Option (Known V))) (x : Arrival) (i : ℕ) (l : Option (Known V)) → IsInside n x → i ≡ arrival_entry n x.node x.channel → i < length table
    → labels_in n (slice_set table i l) x ≡ l
written_label n table x i l h e w = grind (arith, common_steps, elements, nat_tests)

pub settled_label : {V : Type 0} (n : Counts) (table : List (Option (Known V))) (x : Arrival) (i : ℕ) → IsInside n x → i ≡ arrival_entry n x.node x.channel → i < length table
    → labels_in n (slice_set table i (settle (slice_index_or table i None))) x ≡ settle (labels_in n table x)
settled_label n table x i h e w = grind (arith, common_steps, elements, nat_tests)

pub other_label : {V : Type 0} (n : Counts) (table : List (Option (Known V))) (x y : Arrival) (i : ℕ) (l : Option (Known V)) → IsInside n x → i ≡ arrival_entry n x.node x.channel → y ≢ x
    → labels_in n (slice_set table i l) y ≡ labels_in n table y
other_label n table x y i l h e ne = go (inside_or n y)
  where
    go : IsInside n y ⊎ (IsInside n y → ⊥) → labels_in n (slice_set table i l) y ≡ labels_in n table y
    go (inl k) = let a = entry_apart n y x k h ne in grind (arith, common_steps, elements, nat_tests, a)
    go (inr k) = grind (arith, common_steps, elements, nat_tests, k)

outside : {V : Type 0} (n : Counts) (table : List (Option (Known V))) (x : Arrival) → (IsInside n x → ⊥) → labels_in n table x ≡ None
outside n table x h = grind (arith, nat_tests, h)

-- only arrivals of the network are known
pub known_inside : {V : Type 0} (n : Counts) (table : List (Option (Known V))) (x : Arrival) → (labels_in n table x ≡ None → ⊥) → IsInside n x
known_inside n table x h = ⊎_elim (λ k. k) (λ k. absurd (h (outside n table x k))) (inside_or n x)

-- a network has at most 1024 arrivals
pub few_entries : (n : Counts) → Counted n → arrival_entries n ≤ 1024
few_entries n h = let m = mul-le n.nodes n.channels 64 16 h.1 h.4 in omega (arith, m)

-- a table that was filled, read where it was; past its end the same is read
cleared : {X : Type 0} (v : X) (table : List X) (e i : ℕ) → i < e → slice_index_or (filled e v table) i v ≡ v
cleared {X} v table e i h = go (cases_lt i m)
  where
    m : ℕ
    m = min e (length table)

    go : (i < m) ⊎ (m ≤ i) → slice_index_or (filled e v table) i v ≡ v
    go (inl l) = let front : i < length (replicate m v) = omega (arith, l, length-replicate m v) in get_or_append_left (replicate m v) (drop m table) v i front ∙ get_or-replicate m i v v l
    go (inr l) = get_or_past (filled e v table) i v (omega (arith, l, h, length-filled e v table))

-- so nothing is known
pub none_known : {V : Type 0} (n : Counts) (table : List (Option (Known V))) (e : ℕ) (x : Arrival) → e ≡ arrival_entries n → labels_in n (filled e None table) x ≡ None
none_known n table e x q = ⊎_elim
    (λ h. let l = cleared None table e (arrival_entry n x.node x.channel) (omega (arith, mul-add-lt x.node n.channels x.channel n.nodes h.0 h.1, q)) in grind (arith, nat_tests, l))
    (λ h. outside n (filled e None table) x h)
    (inside_or n x)
