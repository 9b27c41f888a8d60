use Rattle.std.proofs.Common.{ℕ, ◌<◌, refl, ◌∙◌, subst, arith}
use Rattle.network.proofs.Filled.{tabled_again}
use Rattle.plan.specs.Records.{tariff_in}
use Rattle.plan.proofs.Owed.{owed, owed_at, standing}
use Rattle.plan.proofs.Told.{tabled_at, tariffs_are, converters_are}
use Rattle.plan.proofs.reader.Plan.load.Goals as goal

pub extent-extent-requires : goal.extent-extent-requires
extent-extent-requires c = (owed c.args.self c.requires.0 _ _ c.requires.1).counted

pub read_records-requires : goal.read_records-requires
read_records-requires c =
    let o = owed_at c.args.self c.extent-extent.result.counts c.requires.0 _ _ c.extent-extent.ensures c.requires.1 in
    omega (arith, o.many_tariffs, o.room.0)

pub write_converters-requires : goal.write_converters-requires
write_converters-requires c =
    let o = owed_at c.args.self c.extent-extent.result.counts c.requires.0 _ _ c.extent-extent.ensures c.requires.1 in
    record {
      room = o.room.1;
      standing = λ i h. standing c.args.self c.extent-extent.result.counts _ _ o i (subst (λ (r : ℕ). i < r) o.many_converters h);
    }

pub returns : goal.returns
returns c =
    let p = c.args.self in
    let n = c.extent-extent.result.counts in
    let o = owed_at p n c.requires.0 _ _ c.extent-extent.ensures c.requires.1 in
    let t = tabled_at _ _ (tariff_in p.tariffs.bytes.now) _ c.args.tariffs.now o.many_tariffs c.read_records.ensures ∙ tariffs_are p n c.extent-extent.ensures _ refl c.args.tariffs.now in
    let u = c.write_converters.ensures ∙ converters_are p n c.extent-extent.ensures _ o.many_converters c.args.converters.now in
    record {
      tables = (t, u);
      loaded = (tabled_again _ _ _ c.args.tariffs.now t, tabled_again _ _ _ c.args.converters.now u);
    }
