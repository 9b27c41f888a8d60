-- A header without a fault keeps the limits.
use Rattle.std.proofs.Common.{◌≡◌, ℕ, List, None, arith}
use Rattle.std.proofs.lemmas.Bool.Decides.{nat_tests}
use Rattle.fault.specs.Judging.{first}
use Rattle.plan.specs.Facts.{Headed}
use Rattle.plan.specs.Header.{header_faults}

pub headed : (bs : List ℕ) → first (header_faults bs) ≡ None → Headed bs
headed bs e = record {
  long = grind (arith, nat_tests);
  short = grind (arith, nat_tests);
  spaced = (grind (arith, nat_tests), grind (arith, nat_tests));
  counted = (grind (arith, nat_tests), grind (arith, nat_tests), grind (arith, nat_tests), grind (arith, nat_tests), grind (arith, nat_tests));
  few = grind (arith, nat_tests);
}
