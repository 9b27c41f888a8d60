-- Costs told as numbers, so that calls by different kinds of cost can stand in one account.
use Rattle.std.specs.Prelude.{◌≡◌, ℕ}
use Rattle.cost.specs.Laws.{Ops}

-- a number for each value of a kind, and the value back from its number
pub record Numbering (V : Type 0) : Type 0 where
  pub number : V → ℕ
  pub value : ℕ → V
  pub back : (v : V) → value (number v) ≡ v

-- the same kind of cost, with numbers for its values
abbrev pub in_numbers : {V : Type 0} → Numbering V → Ops V → Ops ℕ
in_numbers c o = record {
  start = c.number o.start;
  span = λ n w. c.number (o.span (c.value n) w);
  conversion = λ n w. c.number (o.conversion (c.value n) w);
  at_most = λ m n. o.at_most (c.value m) (c.value n);
}
