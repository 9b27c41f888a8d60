-- What a search answers.
use Rattle.std.specs.Prelude.{◌≡◌, ℕ, ◌&&◌, List, [], ◌∷◌, Some, None, Option, Err, Result, nat_lt, nat_le, MatchOption, MatchResult}
use Rattle.fault.specs.Judging.{judge, first}
use Rattle.fault.specs.declared.book.BookFault.{BookFault}
use Rattle.fault.specs.declared.book.BookFault.TheVariants.{NoNode, WorkTable, NoPath}
use Rattle.network.specs.Tariffs.{arrival_entries}
use Rattle.network.specs.declared.counts.Counts.{Counts}
use Rattle.cost.specs.Laws.{Ops}
use Rattle.semilightpath.specs.Scenes.{Scene}
use Rattle.semilightpath.specs.Cheapest.{IsCheapest, HasNone}
use Rattle.search.specs.declared.label.Known.{Known}
use Rattle.search.specs.declared.found.Found.{Found}
use Rattle.search.specs.Labels.{path_to}

-- what is refused before a search from s to t, in a table that has room for so many labels
abbrev pub refusal : Counts → ℕ → ℕ → ℕ → Option BookFault
refusal n s t room = first (judge (nat_lt s n.nodes && nat_lt t n.nodes) NoNode ∷ judge (nat_le (arrival_entries n) room) WorkTable ∷ [])

-- a cheapest semilightpath, along which the labels lead, or that there is none
abbrev pub IsOutcome : {V : Type 0} → Ops V → Scene → ℕ → ℕ → List (Option (Known V)) → Option (Found V) → Type 0
IsOutcome o g s t table r = MatchOption r (HasNone g s t) (λ f. IsCheapest o g s t (path_to g.net.counts table f.end) f.cost)

-- what whoever seeks a semilightpath from s to t is told: the refusal that is due, if any; else what P holds of, or 29 where there is none
abbrev pub Sought : {A : Type 0} → Scene → ℕ → ℕ → (A → Type 0) → Option BookFault → Result A BookFault → Type 0
Sought g s t P (Some f) r = r ≡ Err f
Sought g s t P None r = MatchResult r P (λ f. (f ≡ NoPath) × HasNone g s t)

-- what a search tells: a cheapest one, along which the labels lead
abbrev pub Answers : {V : Type 0} → Ops V → Scene → ℕ → ℕ → List (Option (Known V)) → Option BookFault → Result (Found V) BookFault → Type 0
Answers o g s t table due r = Sought g s t (λ f. IsCheapest o g s t (path_to g.net.counts table f.end) f.cost) due r
