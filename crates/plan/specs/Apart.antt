-- A record is told by its own bytes.
use Rattle.std.specs.Prelude.{◌≡◌, ℕ, ◌+◌, ◌*◌, ◌<◌, List, take, drop}
use Rattle.std.proofs.Common.{get_or, ◌∙◌, ap, arith}
use Rattle.std.proofs.lemmas.List.{get_or-take, get_or-drop}
use Rattle.plan.specs.Records.{converter_in}

-- byte j of record i
own_byte : (bs : List ℕ) (n i j k : ℕ) → j < n → n * i + j ≡ k → get_or (take n (drop (n * i) bs)) j 0 ≡ get_or bs k 0
own_byte bs n i j k h e = get_or-take n (drop (n * i) bs) j 0 h ∙ get_or-drop (n * i) bs j 0 ∙ ap (λ m. get_or bs m 0) e

pub converter_apart : (bs : List ℕ) (i : ℕ) → converter_in (take 5 (drop (5 * i) bs)) 0 ≡ converter_in bs i
converter_apart bs i =
    let node = own_byte bs 5 i 0 (5 * i) (omega arith) (omega arith) in
    let from = own_byte bs 5 i 1 (5 * i + 1) (omega arith) (omega arith) in
    let to = own_byte bs 5 i 2 (5 * i + 2) (omega arith) (omega arith) in
    let hi = own_byte bs 5 i 3 (5 * i + 3) (omega arith) (omega arith) in
    let lo = own_byte bs 5 i 4 (5 * i + 3 + 1) (omega arith) (omega arith) in
    λ k. record { node = node k; from = from k; to = to k; tariff = hi k * 256 + lo k }
