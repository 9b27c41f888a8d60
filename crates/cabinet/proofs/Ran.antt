-- What comes of requests for a plan that is accepted.
use Rattle.std.proofs.Common.{◌≡◌, ℕ, min, List, ◌++◌, length, take, drop, None, Option, sym, subst}
use Rattle.std.proofs.lemmas.List.{take_at, drop_at}
use Rattle.fault.specs.declared.plan.FileFault.{FileFault}
use Rattle.network.specs.Net.{Net}
use Rattle.plan.specs.declared.reader.Plan.{Plan}
use Rattle.plan.specs.Header.{header}
use Rattle.plan.specs.Kept.{Told}
use Rattle.plan.specs.Plan.{read, read_by}
use Rattle.cabinet.specs.declared.answer.Answer.{Answer}
use Rattle.cabinet.specs.declared.reply.Reply.{Reply}
use Rattle.cabinet.specs.declared.request.Request.{Request}
use Rattle.cabinet.specs.declared.switch.Switch.{Switch}
use Rattle.cabinet.specs.Answers.{accepted, Comes}
use Rattle.cabinet.specs.Serving.{RunsFresh}

-- the windows of a plan have what is read of its bytes
pub read_is : (bs : List ℕ) (p : Plan) → Told bs (header bs) p → read_by p ≡ read bs
read_is bs p t = λ i. record {
  header = t.header i;
  numbers = t.numbers.holds i;
  spans = t.spans.holds i;
  tariffs = t.tariffs.holds i;
  converters = t.converters.holds i;
}

pub comes : (due : Option FileFault) (w w' : Net) (qs : List Request) (rs front : List Reply) (v v' : List Switch) (a : Answer) (k : ℕ) → due ≡ None → w' ≡ w → k ≡ min (length qs) (length rs) → length front ≡ k → a ≡ accepted k → RunsFresh w' (take k qs) v front v'
    → Comes due w qs rs (front ++ drop k rs) v v' a
comes due w w' qs rs front v v' a k none same is long told run =
    subst (λ d. Comes d w qs rs (front ++ drop k rs) v v' a) (sym none)
    (subst (λ j. (a ≡ accepted j) × RunsFresh w (take j qs) v (take j (front ++ drop k rs)) v' × (drop j (front ++ drop k rs) ≡ drop j rs)) is (
      told,
      subst (λ u. RunsFresh u (take k qs) v (take k (front ++ drop k rs)) v') same (subst (λ fs. RunsFresh w' (take k qs) v fs v') (sym (take_at front (drop k rs) k long)) run),
      drop_at front (drop k rs) k long,
    ))
