-- The records of the channels, read and written one by one and along a path.
use Rattle.std.proofs.Common.{◌≡◌, ◌≢◌, ◌/◌, ◌%◌, ◌≤◌, true, false, ◌&&◌, List, length, None, refl, sym, ap, ap₂, ◌∙◌, arith}
use Rattle.std.proofs.lemmas.Bool.{eqb-true, eq-eqb, and_parts, false≢true}
use Rattle.std.proofs.lemmas.List.{get_or-set_same, get_or-set_other}
use Rattle.std.proofs.lemmas.Nat.{div-mul-add, mod-mul-add}
use Rattle.network.specs.declared.counts.Counts.{Counts}
use Rattle.network.specs.declared.step.Step.{Step}
use Rattle.network.specs.Tariffs.{span_entries, span_entry}
use Rattle.network.specs.Steps.{step, Within, same}
use Rattle.network.proofs.Entries.{span_entry_lem}
use Rattle.records.specs.Chains.{Channel, channel_at}
use Rattle.records.specs.Changes.{written}

-- two steps are one, or not
pub same_step : (s t : Step) → same s t ≡ true → s ≡ t
same_step s t e = let p = and_parts _ _ e in ap₂ step (eqb-true _ _ p.0) (eqb-true _ _ p.1)

pub same_self : (s : Step) → same s s ≡ true
same_self s = ap₂ (λ a b. a && b) (eq-eqb s.span s.span refl) (eq-eqb s.channel s.channel refl)

-- steps of the network that stand in one entry are one
pub one_entry : (n : Counts) (s t : Step) → Within n s → Within n t → span_entry n s.span s.channel ≡ span_entry n t.span t.channel → s ≡ t
one_entry n s t hs ht e =
    let p : s.span ≡ t.span = sym (div-mul-add s.span n.channels s.channel hs.1) ∙ ap (λ z. z / n.channels) e ∙ div-mul-add t.span n.channels t.channel ht.1 in
    let q : s.channel ≡ t.channel = sym (mod-mul-add s.span n.channels s.channel hs.1) ∙ ap (λ z. z % n.channels) e ∙ mod-mul-add t.span n.channels t.channel ht.1 in
    ap₂ step p q

pub other_entry : (n : Counts) (s t : Step) → Within n s → Within n t → same s t ≡ false → span_entry n s.span s.channel ≢ span_entry n t.span t.channel
other_entry n s t hs ht ne e = false≢true (sym ne ∙ ap (same s) (sym (one_entry n s t hs ht e)) ∙ same_self s)

pub written_there : (n : Counts) (channels : List Channel) (s : Step) (r : Channel) → Within n s → span_entries n ≤ length channels → channel_at n (written n channels s r) s ≡ r
written_there n channels s r h wide =
    let lt = span_entry_lem n s.span s.channel h.0 h.1 in
    get_or-set_same channels (span_entry n s.span s.channel) r None (omega (arith, lt, wide))

pub written_off : (n : Counts) (channels : List Channel) (s u : Step) (r : Channel) → Within n s → Within n u → same u s ≡ false → channel_at n (written n channels s r) u ≡ channel_at n channels u
written_off n channels s u r hs hu ne = get_or-set_other channels _ _ r None (other_entry n u s hu hs ne)
