use Rattle.std.proofs.Common.{rules, map, sym, ◌∙◌, arith}
use Rattle.std.proofs.lemmas.List.{ext_get_or, length-map, get_or-map}
use Rattle.network.specs.Limits.{no_span}
use Rattle.network.specs.Indexes.{turned}
use Rattle.network.proofs.reads.turned.Goals as goal

pub returns : goal.returns
returns c =
    let spans = c.args.ends.now in
    ext_get_or no_span c.map.result (map turned spans) (c.map.ensures.items.long ∙ sym (length-map spans turned ∙ c.told-ends))
    (λ i h. let call = c.map.ensures.items.at i no_span no_span (omega (arith, h, c.map.ensures.items.long)) in (search rules) ∙ sym (get_or-map turned spans i no_span no_span (omega (arith, h, c.map.ensures.items.long, c.told-ends))))
