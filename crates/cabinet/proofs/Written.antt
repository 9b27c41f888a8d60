-- Settings that are written in plain numbers, one after the other.
use Rattle.std.proofs.Common.{◌≡◌, ℕ, ◌+◌, ◌<◌, List, [], ◌∷◌, ◌++◌, map, length, get_or, take, drop, set, sym, ap, ◌∙◌, arith}
use Rattle.std.proofs.lemmas.List.{take_more, map-append, length-map, length-take-le}
use Rattle.network.proofs.Filled.{front_more}
use Rattle.slip.specs.declared.setting.Setting.{Setting}
use Rattle.cabinet.specs.declared.switch.Switch.{Switch}
use Rattle.cabinet.specs.Switches.{switch}

pub written_more : (settings : List Setting) (cur old : List Switch) (i : ℕ) (d : Setting) (v : Switch) → cur ≡ map switch (take i settings) ++ drop i old → i < length settings → length settings ≡ length old → v ≡ switch (get_or settings i d)
    → set cur i v ≡ map switch (take (i + 1) settings) ++ drop (i + 1) old
written_more settings cur old i d v inv h same is =
    ap (λ l. set l i v) inv
    ∙ front_more (map switch (take i settings)) (map switch (take (i + 1) settings)) old i v (omega (arith, h, same)) (length-map (take i settings) switch ∙ length-take-le i settings (omega (arith, h)))
    (ap (λ x. map switch (take i settings) ++ x ∷ []) is
    ∙ sym (map-append switch (take i settings) (get_or settings i d ∷ []))
    ∙ ap (map switch) (sym (take_more settings i d h)))
