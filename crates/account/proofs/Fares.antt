-- What can be used, by the tables and by the account, is the same.
use Rattle.std.proofs.Common.{◌≡◌, ℕ, ◌<◌, Bool, true, false, cond, not, ◌&&◌, List, None, Some, Option, is_none, is_some, nat_lt, refl, sym, ap, ap₂, slice_index_or, ◌∙◌, ◌⊎◌, inl, inr}
use Rattle.std.proofs.lemmas.Bool.{and_parts, cases_Bool, ltb-true}
use Rattle.network.specs.declared.step.Step.{Step}
use Rattle.network.specs.Net.{Net, tariff_of}
use Rattle.network.specs.Steps.{Within}
use Rattle.network.specs.Tariffs.{absent, tariff, span_entry}
use Rattle.semilightpath.specs.Scenes.{scene}
use Rattle.records.specs.Chains.{Channel, channel_at}
use Rattle.records.specs.declared.state.SpanState.{SpanState}
use Rattle.moment.specs.Usable.{span_is_open, channel_is_free, fare_at}
use Rattle.account.specs.Accounts.{Account, is_held, fare_by, scene_by}

none_some : (r : Channel) → is_none r ≡ not (is_some r)
none_some None = refl
none_some (Some h) = refl

abbrev no_tariff : Option ℕ
no_tariff = None

cond_same : (b : Bool) → cond b no_tariff no_tariff ≡ no_tariff
cond_same true = refl
cond_same false = refl

-- where spans of the network are open alike, and channels of it held alike, the fares are the same
pub same_scene : (w : Net) (channels : List Channel) (spans : List SpanState) (a : Account) → ((e : ℕ) → e < w.counts.spans → span_is_open spans e ≡ a.is_open e)
    → ((s : Step) → Within w.counts s → is_some (channel_at w.counts channels s) ≡ is_held a s) → scene w (fare_at w channels spans) ≡ scene_by w a
same_scene w channels spans a opens held = ap (scene w) (λ i s. at s i)
  where
    at : (s : Step) → fare_at w channels spans s ≡ fare_by w a s
    at s = go (cases_Bool (nat_lt s.span w.counts.spans && nat_lt s.channel w.counts.channels))
      where
        there : Option ℕ
        there = tariff (slice_index_or w.tariffs (span_entry w.counts s.span s.channel) absent)

        first : Bool
        first = span_is_open spans s.span && channel_is_free w.counts channels s

        second : Bool
        second = a.is_open s.span && not (is_held a s)

        go : ((nat_lt s.span w.counts.spans && nat_lt s.channel w.counts.channels) ≡ true) ⊎ ((nat_lt s.span w.counts.spans && nat_lt s.channel w.counts.channels) ≡ false) → fare_at w channels spans s ≡ fare_by w a s
        go (inl q) =
            let p = and_parts (nat_lt s.span w.counts.spans) (nat_lt s.channel w.counts.channels) q in
            let h : s.span < w.counts.spans = ltb-true s.span w.counts.spans p.0 in
            ap (λ b. cond b (tariff_of w s.span s.channel) None) (ap₂ (λ b c. b && c) (opens s.span h) (none_some (channel_at w.counts channels s) ∙ ap not (held s (h, ltb-true s.channel w.counts.channels p.1))))
        go (inr q) = ap (λ b. cond first (cond b there None) None) q ∙ cond_same first ∙ sym (cond_same second) ∙ sym (ap (λ b. cond second (cond b there None) None) q)
