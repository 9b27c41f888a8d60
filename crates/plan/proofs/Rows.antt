-- A loop over the records of a section.
use Rattle.std.proofs.Common.{◌≡◌, ℕ, ◌+◌, ◌*◌, ◌<◌, Bool, true, false, Some, None, Ok, Err, Option, Result, sym, ap, ◌∙◌, add-one}
use Rattle.fault.specs.Judging.{Judgement, first, each, unless}
use Rattle.fault.specs.declared.plan.RecordFault.{RecordFault}
use Rattle.fault.proofs.Judged.{each_at, each_more}
use Rattle.plan.specs.Records.{record_row, previous}

abbrev Answer : Type 0
Answer = Result (Unit {0}) RecordFault

module _ {R : Type 0} (size : ℕ) (sound : Option R → R → Bool) (fault : ℕ → RecordFault) (at : ℕ) (f : ℕ → R) where
  abbrev row : ℕ → Judgement RecordFault
  row = record_row size sound fault at f

  pub accepted : (i n : ℕ) → i ≡ n → first (each i row) ≡ None → ◌≡◌ {A = Answer} (Ok tt) (unless (first (each n row)) tt)
  accepted i n h e = ap (λ r. unless r tt) (sym (ap (λ m. first (each m row)) (sym h) ∙ e))

  -- record i is judged by what was read of it and of the record before
  module _ (i : ℕ) (last : Option R) (x : R) (before : last ≡ previous f i) (is : x ≡ f i) (none : first (each i row) ≡ None) where
    judged : (b : Bool) → b ≡ sound last x → (row i).sound ≡ b
    judged b e = (λ k. sound (sym before k) (sym is k)) ∙ sym e

    pub refused : (n place : ℕ) (e : RecordFault) → i < n → e ≡ fault place → place ≡ at + size * i → false ≡ sound last x → ◌≡◌ {A = Answer} (Err e) (unless (first (each n row)) tt)
    refused n place e h told stands s = ap (λ y. Err y) (told ∙ ap fault stands) ∙ ap (λ r. unless r tt) (sym (each_at row i n h none (judged false s)))

    pub record_more : true ≡ sound last x → (first (each (i + 1) row) ≡ None) × (Some x ≡ previous f (i + 1))
    record_more s = (each_more row i none (judged true s), ap (λ y. Some y) is ∙ ap (previous f) (sym (add-one i)))
