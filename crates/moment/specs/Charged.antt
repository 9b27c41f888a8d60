-- What has a fare at a moment is carried by the network, at that tariff.
use Rattle.std.specs.Option.{IfSome}
use Rattle.std.proofs.Common.{◌≡◌, Bool, true, false, cond, ◌&&◌, List, Some, None}
use Rattle.network.specs.Net.{Net, tariff_of}
use Rattle.network.specs.declared.step.Step.{Step}
use Rattle.semilightpath.specs.Carried.{carried_alone}
use Rattle.records.specs.Chains.{Channel}
use Rattle.records.specs.declared.state.SpanState.{SpanState}
use Rattle.moment.specs.Usable.{span_is_open, channel_is_free, fare_at}

pub fare_carried : (w : Net) (channels : List Channel) (spans : List SpanState) (e : Step) → IfSome (fare_at w channels spans e) (λ v. tariff_of w e.span e.channel ≡ Some v)
fare_carried w channels spans e = go (span_is_open spans e.span && channel_is_free w.counts channels e)
  where
    go : (t : Bool) → IfSome (cond t (tariff_of w e.span e.channel) None) (λ v. tariff_of w e.span e.channel ≡ Some v)
    go true = carried_alone (tariff_of w e.span e.channel)
    go false = tt
