-- What is told of a price.
use Rattle.std.specs.Prelude.{ℕ, cond, List, Some, Option, Result, nat_lt, slice_set}
use Rattle.fault.specs.declared.book.BookFault.{BookFault}
use Rattle.fault.specs.declared.book.BookFault.TheVariants.{NoSpan}
use Rattle.network.specs.declared.counts.Counts.{Counts}
use Rattle.cost.specs.Laws.{Ops}
use Rattle.records.specs.declared.state.SpanState.{SpanState}
use Rattle.records.specs.declared.state.SpanState.TheVariants.{Shut}
use Rattle.semilightpath.specs.Scenes.{Scene}
use Rattle.semilightpath.specs.Cheapest.{IsLeastCost}
use Rattle.search.specs.Answers.{refusal, Sought}

-- the states of the spans, but with span e shut
abbrev pub with_shut : ℕ → List SpanState → List SpanState
with_shut e spans = slice_set spans e Shut

-- what is refused before a search from s to t with span e shut: there is no state for that span, or what a search refuses
abbrev pub without_refusal : Counts → ℕ → ℕ → ℕ → ℕ → ℕ → Option BookFault
without_refusal n e spans s t room = cond (nat_lt e spans) (refusal n s t room) (Some NoSpan)

-- what is told of a price: the least cost from s to t
abbrev pub Prices : {V : Type 0} → Ops V → Scene → ℕ → ℕ → Option BookFault → Result V BookFault → Type 0
Prices o g s t due r = Sought g s t (IsLeastCost o g s t) due r
