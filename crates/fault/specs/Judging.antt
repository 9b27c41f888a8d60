-- Judgements in an order: the first that finds no soundness gives the fault.
use Rattle.std.specs.Prelude.{ℕ, Bool, cond, List, [], ◌∷◌, map, Some, None, Ok, Err, Option, Result}
use Rattle.std.specs.List.{range_with_len}

-- whether something is sound, and the fault where it is not
pub record Judgement (F : Type 0) : Type 0 where
  pub sound : Bool
  pub fault : F

abbrev pub judge : {F : Type 0} → Bool → F → Judgement F
judge b f = record { sound = b; fault = f }

-- the fault of the first judgement that is not sound
abbrev pub first : {F : Type 0} → List (Judgement F) → Option F
first [] = None
first (j ∷ js) = cond j.sound (first js) (Some j.fault)

-- one judgement for each number below n, in their order
abbrev pub each : {F : Type 0} → ℕ → (ℕ → Judgement F) → List (Judgement F)
each n f = map f (range_with_len 0 n)

-- the same judgement, its fault inside another
abbrev pub within : {F G : Type 0} → (F → G) → Judgement F → Judgement G
within f j = judge j.sound (f j.fault)

abbrev pub inside : {F G : Type 0} → (F → G) → List (Judgement F) → List (Judgement G)
inside f js = map (within f) js

-- a value where all is sound, else the first fault
abbrev pub unless : {F A : Type 0} → Option F → A → Result A F
unless None x = Ok x
unless (Some f) x = Err f
