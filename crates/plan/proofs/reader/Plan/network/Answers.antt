use Rattle.std.proofs.Common.{sym, refl, ap, ◌∙◌}
use Rattle.network.specs.Net.{Net}
use Rattle.network.specs.Spacings.{code_of}
use Rattle.plan.specs.Plan.{read_by}
use Rattle.plan.specs.Records.{number_in, span_in}
use Rattle.plan.proofs.Owed.{owed, owed_at, ranged, rising, joined, few_converters, proper_converters}
use Rattle.plan.proofs.Listing.{faithful}
use Rattle.plan.proofs.Told.{code_is, tabled_at, tariffs_are, converters_are, told_is}
use Rattle.plan.proofs.reader.Plan.network.Goals as goal

pub extent-extent-requires : goal.extent-extent-requires
extent-extent-requires c = (owed c.args.self c.requires.accepted.0 _ _ c.requires.accepted.1).counted

pub told_spacing-spacing-requires : goal.told_spacing-spacing-requires
told_spacing-spacing-requires c = (owed c.args.self c.requires.accepted.0 _ _ c.requires.accepted.1).spaced

pub make-requires : goal.make-requires
make-requires c =
    let p = c.args.self in
    let n = c.extent-extent.result.counts in
    let o = owed_at p n c.requires.accepted.0 _ _ c.extent-extent.ensures c.requires.accepted.1 in
    let numbers = tabled_at _ _ (number_in p.numbers.bytes.now) _ _ o.many_numbers c.read_records.ensures in
    let ends = tabled_at _ _ (span_in p.spans.bytes.now) _ _ o.many_spans c.read_records-2.ensures in
    let table = c.args.converters.now in
    let told = c.requires.loaded.1 ∙ sym (converters_are p n c.extent-extent.ensures p.header.converters refl table) in
    record {
      ranged = ranged p n _ _ o c.read_records.new.table _ numbers;
      rising = rising p n _ _ o c.read_records.new.table _ numbers;
      joined = joined p n _ _ o c.read_records-2.new.table _ ends;
      roomy = o.room;
      few = few_converters p n _ _ o table _ told;
      proper = proper_converters p n _ _ o table _ told;
    }

pub returns : goal.returns
returns c =
    let p = c.args.self in
    let n = c.extent-extent.result.counts in
    let r = p.header.converters in
    let o = owed_at p n c.requires.accepted.0 _ _ c.extent-extent.ensures c.requires.accepted.1 in
    let numbers = tabled_at _ _ (number_in p.numbers.bytes.now) _ _ o.many_numbers c.read_records.ensures in
    let ends = tabled_at _ _ (span_in p.spans.bytes.now) _ _ o.many_spans c.read_records-2.ensures in
    let tariffs = c.args.tariffs.now in
    let converters = c.args.converters.now in
    let is =
    c.make.ensures.is
    ∙ told_is p n c.extent-extent.ensures r refl c.told_spacing-spacing.result c.told_spacing-spacing.ensures c.read_records.new.table _ c.read_records-2.new.table _ tariffs _ converters _ numbers ends (c.requires.loaded.0 ∙ sym (tariffs_are p n c.extent-extent.ensures r refl tariffs)) (c.requires.loaded.1 ∙ sym (converters_are p n c.extent-extent.ensures r refl converters)) in
    record { is = is; code = ap (λ (w : Net). code_of w.spacing) is ∙ code_is (read_by p) o.spaced; faithful = faithful p _ _ (owed p c.requires.accepted.0 _ _ c.requires.accepted.1) _ is }
