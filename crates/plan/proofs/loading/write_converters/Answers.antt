use Rattle.std.proofs.Common.{◌≡◌, ◌/◌, [], length, sym, refl, ap, ◌∙◌, subst, arith}
use Rattle.network.specs.Tables.{tabled}
use Rattle.network.specs.Tariffs.{converter_entries}
use Rattle.plan.specs.declared.record.Converter.{Converter}
use Rattle.plan.specs.Apart.{converter_apart}
use Rattle.plan.specs.Records.{converter_in}
use Rattle.plan.specs.Telling.{listed, place, Stands}
use Rattle.plan.proofs.Marks.{marks_none, marks_more, marks_all}
use Rattle.plan.proofs.Parts.{record_is}
use Rattle.plan.proofs.loading.write_converters.Goals as goal

is : (c : goal.After-entry_of-at) → c.read-converter.result ≡ converter_in c.args.window.bytes.now c.loop-bytes.bytes-index
is c =
    let a = c.as_chunks.ensures in
    record_is 5 converter_in c.args.window.bytes.now c.as_chunks.result.0.now c.loop-bytes.bytes-index _ [] _ converter_apart a.front a.front_len c.loop-bytes-test.true refl c.read-converter.ensures

pub entry_of-at-requires : goal.entry_of-at-requires
entry_of-at-requires c =
    let a = c.as_chunks.ensures in
    let same = record_is 5 converter_in c.args.window.bytes.now c.as_chunks.result.0.now c.loop-bytes.bytes-index _ [] _ converter_apart a.front a.front_len c.loop-bytes-test.true refl c.read-converter.ensures in
    subst (Stands c.args.extent.counts) (sym same) (c.requires.standing c.loop-bytes.bytes-index (omega (arith, a.front_len)))

pub bounds-table-at : goal.bounds-table-at
bounds-table-at c = omega (arith, c.entry_of-at.ensures.within, c.requires.room)

pub loop-bytes-init : goal.loop-bytes-init
loop-bytes-init c = marks_none (converter_entries c.args.extent.counts) c.clear_converters.new.table c.args.table.now c.clear_converters.ensures c.requires.room

pub loop-bytes-preserved : goal.loop-bytes-preserved
loop-bytes-preserved c =
    marks_more c.args.extent.counts (converter_in c.args.window.bytes.now) c.loop-bytes.bytes-index c.entry_of-at.result _ c.loop-bytes.table c.clear_converters.new.table c.loop-bytes.invariant
    (c.entry_of-at.ensures.is ∙ ap (place c.args.extent.counts) (is c)) c.entry_of-at.ensures.within (ap (λ (x : Converter). x.tariff) (is c))

pub returns : goal.returns
returns c =
    let n = c.args.extent.counts in
    let f = converter_in c.args.window.bytes.now in
    let a = c.as_chunks.ensures in
    let end : c.loop-bytes.bytes-index ≡ length c.args.window.bytes.now / 5 = omega (arith, a.front_len) in
    c.loop-bytes.invariant
    ∙ marks_all (converter_entries n) (listed n f c.loop-bytes.bytes-index) c.clear_converters.new.table c.args.table.now c.clear_converters.ensures
    ∙ ap (λ r. tabled (converter_entries n) (listed n f r) c.args.table.now) end
