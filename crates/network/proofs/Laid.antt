-- A row of a node's part of a table, as it stands in the table.
use Rattle.std.proofs.Common.{◌≡◌, ℕ, zero, suc, ◌+◌, ◌*◌, ◌<◌, ◌≤◌, List, length, slice_range, refl, sym, ap, ◌∙◌, subst, arith}
use Rattle.std.specs.List.{range_with_len}
use Rattle.std.proofs.lemmas.List.Edits.{length-between}
use Rattle.std.proofs.Math.Nat.{mul-le-mul_right}
use Rattle.network.specs.declared.counts.Counts.{Counts}
use Rattle.network.specs.Extents.{Counted}
use Rattle.network.specs.Indexes.{start_at, width_at, row_at}
use Rattle.network.specs.Rates.{ByRate, exit_mark, exit_at, ExitsOf, span_mark, way_at, Ordered, WaysOf}
use Rattle.network.proofs.Parts.{behind, part_of}

exit_place : (width u a : ℕ) → u * (width * width) + a * width ≡ (u * width + a) * width
exit_place width u a = omega arith

exit_end : (width u a : ℕ) → u * (width * width) + (a * width + width) ≡ (u * width + a) * width + width
exit_end width u a = omega arith

-- at least 16,384 entries are room for all nodes
pub exits_fit : (n : Counts) (u : ℕ) → Counted n → u < n.nodes → u * (n.channels * n.channels) + n.channels * n.channels ≤ 16384
exits_fit n u counted h =
    let size = n.channels * n.channels in
    let few = mul-le-mul_right n.channels counted.4 in
    omega (arith, counted, few, behind size n.nodes u h, mul-le-mul_right size counted.1)

pub exits_laid : (n : Counts) (converters exits : List ℕ) (width u a : ℕ) → a < n.channels → width ≡ n.channels → ExitsOf n converters u (slice_range exits (u * (width * width)) (u * (width * width) + width * width))
    → ByRate (exit_mark n converters u a) (range_with_len 0 n.channels) (slice_range exits (exit_at n u a) (exit_at n u a + n.channels))
exits_laid n converters exits width u a h same rows =
    let size = width * width in
    let within = behind width width a (omega arith) in
    let part = part_of (u * size) (u * size + size) (a * width) (a * width + width) exits (omega arith) in
    let row =
    subst (λ m. ByRate (exit_mark n converters u a) (range_with_len 0 n.channels) (slice_range (slice_range exits (u * size) (u * size + size)) (a * m) (a * m + m))) (sym same) (rows a h) in
    subst (λ m. ByRate (exit_mark n converters u a) (range_with_len 0 n.channels) (slice_range exits ((u * m + a) * m) ((u * m + a) * m + m))) same
    (subst (ByRate (exit_mark n converters u a) (range_with_len 0 n.channels)) (part ∙ (λ i. slice_range exits (exit_place width u a i) (exit_end width u a i))) row)

-- the rows of an index begin one behind the other
pub starts_rise : (n : Counts) (order starts : List ℕ) (k i j : ℕ) → Ordered n order starts → i + k ≡ j → j ≤ n.nodes → start_at starts i ≤ start_at starts j
starts_rise n order starts zero i j ordered e h = subst (λ m. start_at starts i ≤ start_at starts m) (let same : i ≡ j = omega arith in same) (omega arith)
starts_rise n order starts (suc k) i j ordered e h =
    let last = starts_rise n order starts k i (i + k) ordered refl (omega arith) in
    let next = (ordered (i + k) (omega arith)).0 in
    subst (λ m. start_at starts i ≤ start_at starts m) (let same : i + k + 1 ≡ j = omega arith in same) (omega arith)

pub times_rise : (width a b : ℕ) → a ≤ b → a * width ≤ b * width
times_rise width a b h = mul-le-mul_right width h

-- 4096 entries are room for 256 spans
pub ways_fit : (n : Counts) (end : ℕ) → Counted n → end ≤ 256 → end * n.channels ≤ 4096
ways_fit n end counted h = omega (arith, mul-le-mul_right n.channels h, counted.4)

-- a node's part of the table
part_fits : (a b width w c : ℕ) → b ≡ a + w → c < width → a * width + (c * w + w) ≤ b * width
part_fits a b width w c e h = omega (arith, ap (λ k. k * width) e, behind w width c h)

length-row_at : (order starts : List ℕ) (u : ℕ) → start_at starts (u + 1) ≤ length order → length (row_at order starts u) ≡ width_at starts u
length-row_at order starts u h = length-between order (start_at starts u) (start_at starts (u + 1)) h

pub ways_laid : (n : Counts) (tariffs order starts ways : List ℕ) (width u c : ℕ) → length order ≡ 256 → Ordered n order starts → u < n.nodes → c < n.channels → width ≡ n.channels
    → WaysOf n tariffs (row_at order starts u) (slice_range ways (start_at starts u * width) (start_at starts (u + 1) * width))
    → ByRate (span_mark n tariffs c) (row_at order starts u) (slice_range ways (way_at n starts u c) (way_at n starts u c + width_at starts u))
ways_laid n tariffs order starts ways width u c full ordered hu hc same rows =
    let a = start_at starts u in
    let b = start_at starts (u + 1) in
    let w = width_at starts u in
    let within = ordered u hu in
    let long : length (row_at order starts u) ≡ w = length-row_at order starts u (omega (arith, within.1)) in
    let from : b ≡ a + w = omega (arith, within.0) in
    let part = part_of (a * n.channels) (b * n.channels) (c * w) (c * w + w) ways (part_fits a b n.channels w c from hc) in
    let row = subst (λ m. ByRate (span_mark n tariffs c) (row_at order starts u) (slice_range (slice_range ways (a * n.channels) (b * n.channels)) (c * m) (c * m + m))) long
    (subst (λ k. ByRate (span_mark n tariffs c) (row_at order starts u) (slice_range (slice_range ways (a * k) (b * k)) (c * length (row_at order starts u)) (c * length (row_at order starts u) + length (row_at order starts u)))) same (rows c hc)) in
    subst (ByRate (span_mark n tariffs c) (row_at order starts u)) (part ∙ ap (slice_range ways (a * n.channels + c * w)) (add_assoc (a * n.channels) (c * w) w)) row
  where
    add_assoc : (x y z : ℕ) → x + (y + z) ≡ x + y + z
    add_assoc x y z = omega arith
