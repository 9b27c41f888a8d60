-- A span that was shut for a while is as it was.
use Rattle.std.proofs.Common.{◌≡◌, ℕ, List, slice_set, slice_index_or, ap, ◌∙◌}
use Rattle.std.proofs.lemmas.List.{set-get_or, set-set}
use Rattle.records.specs.declared.state.SpanState.{SpanState}
use Rattle.records.specs.declared.state.SpanState.TheVariants.{Open, Shut}
use Rattle.pricing.specs.Pricing.{with_shut}

pub restored : (spans : List SpanState) (e : ℕ) (former : SpanState) → former ≡ slice_index_or spans e Open → slice_set (with_shut e spans) e former ≡ spans
restored spans e former was = set-set spans e Shut former ∙ ap (slice_set spans e) was ∙ set-get_or spans e Open
