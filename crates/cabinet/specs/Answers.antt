-- What an export answers.
use Rattle.std.specs.Prelude.{◌≡◌, ℕ, min, List, length, take, drop, None, Some, Option}
use Rattle.fault.specs.declared.report.Report.{Report}
use Rattle.fault.specs.declared.plan.FileFault.{FileFault}
use Rattle.fault.specs.Reports.{of_file}
use Rattle.network.specs.Net.{Net}
use Rattle.cabinet.specs.declared.answer.Answer.{Answer}
use Rattle.cabinet.specs.declared.reply.Reply.{Reply}
use Rattle.cabinet.specs.declared.request.Request.{Request}
use Rattle.cabinet.specs.declared.switch.Switch.{Switch}
use Rattle.cabinet.specs.Serving.{RunsFresh}

-- nothing is refused, and so many requests were served
abbrev pub accepted : ℕ → Answer
accepted k = record { refusal = 0; place = 0; served = k }

-- a report, in plain numbers
abbrev pub reported : Report → Answer
reported r = record { refusal = r.number; place = r.place; served = 0 }

-- the plan's first fault, if it has any
abbrev pub judged : Option FileFault → Answer
judged None = accepted 0
judged (Some f) = reported (of_file f)

-- what comes of a list of requests, for a plan with this fault or none: the plan is refused, and nothing is written; or as many requests are served as there is room for replies, and the replies beyond stay
abbrev pub Comes : Option FileFault → Net → List Request → List Reply → List Reply → List Switch → List Switch → Answer → Type 0
Comes (Some f) w qs rs rs' v v' a = (a ≡ reported (of_file f)) × (rs' ≡ rs) × (v' ≡ v)
Comes None w qs rs rs' v v' a =
    (a ≡ accepted (min (length qs) (length rs)))
    × RunsFresh w (take (min (length qs) (length rs)) qs) v (take (min (length qs) (length rs)) rs') v'
    × (drop (min (length qs) (length rs)) rs' ≡ drop (min (length qs) (length rs)) rs)
