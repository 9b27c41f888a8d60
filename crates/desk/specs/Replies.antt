-- What the desk says.
use Rattle.std.specs.Prelude.{◌≡◌, ℕ, List, ◌∷◌, ◌++◌, length, None, Some, Ok, Err, Option, Result, codes, decimal}
use Rattle.std.specs.List.{flat_map}
use Rattle.std.specs.Result.{MatchResult}
use Rattle.fault.specs.Reports.{of_ticket, of_book}
use Rattle.fault.specs.Texts.{report_text}
use Rattle.fault.specs.declared.book.BookFault.{BookFault}
use Rattle.fault.specs.declared.report.Report.{Report}
use Rattle.cost.specs.Sums.{fee_text}
use Rattle.cost.specs.Fews.{tally_text}
use Rattle.slip.specs.declared.setting.Setting.{Setting}
use Rattle.slip.specs.Texts.{setting_text}
use Rattle.desk.specs.declared.reply.Cost.{Cost}
use Rattle.desk.specs.declared.reply.Cost.TheVariants as cost
use Rattle.desk.specs.declared.reply.Reply.{Reply}
use Rattle.desk.specs.declared.reply.Reply.TheVariants.{Lit, Fee, Dark, Shut, Slip, No}
use Rattle.desk.specs.declared.refusal.DeskFault.{DeskFault}
use Rattle.desk.specs.declared.refusal.DeskFault.TheVariants as desk

-- a cost as its kind prints it
abbrev pub cost_text : Cost → List ℕ
cost_text (cost.Sum v) = fee_text v
cost_text (cost.Few v) = tally_text v
cost_text (cost.Worst v) = decimal v

-- an answer's value is turned so, and its refusal kept
abbrev pub Maps : {A B : Type 0} → (A → B) → Result A BookFault → Result B BookFault → Type 0
Maps f a b = MatchResult a (λ v. b ≡ Ok (f v)) (λ e. b ≡ Err e)

-- what is said where a circuit is lit, a path is priced, a circuit darkened, a span shut
abbrev pub lit_text : ℕ → List ℕ → List ℕ
lit_text c cost = codes "LIT " ++ (decimal c ++ (codes " " ++ cost))

abbrev pub price_text : List ℕ → List ℕ
price_text cost = codes "FEE " ++ cost

abbrev pub dark_text : ℕ → ℕ → List ℕ
dark_text c channels = codes "DARK " ++ (decimal c ++ (codes " " ++ decimal channels))

abbrev pub shut_text : ℕ → List ℕ
shut_text span = codes "SHUT " ++ decimal span

-- settings, each on a line of its own
abbrev pub settings_text : List Setting → List ℕ
settings_text ss = flat_map (λ s. 10 ∷ setting_text s) ss

-- a slip, and its settings
abbrev pub slip_text : ℕ → List Setting → List ℕ
slip_text c ss = codes "SLIP " ++ (decimal c ++ (codes " " ++ (decimal (length ss) ++ settings_text ss)))

-- a refusal
abbrev pub refusal_text : Report → List ℕ
refusal_text r = codes "NO " ++ report_text r

abbrev pub text : Reply → List ℕ
text (Lit c v) = lit_text c (cost_text v)
text (Fee v) = price_text (cost_text v)
text (Dark c channels) = dark_text c channels
text (Shut span) = shut_text span
text (Slip c ss) = slip_text c ss.now
text (No r) = refusal_text r

-- a text, or the refusal that is due
abbrev pub told : Option BookFault → List ℕ → List ℕ
told None said = said
told (Some f) said = refusal_text (of_book f)

abbrev pub no_plan : Report → List ℕ
no_plan r = codes "PLAN " ++ report_text r

-- the report of what is refused, by the layer that refuses it
abbrev pub of_desk : DeskFault → Report
of_desk (desk.Ticket f) = of_ticket f
of_desk (desk.Book f) = of_book f

-- what is said of an answer, or of the refusal in its place
abbrev pub book_said : Result Reply BookFault → List ℕ
book_said (Ok r) = text r
book_said (Err f) = refusal_text (of_book f)

abbrev pub said_of : Result Reply DeskFault → List ℕ
said_of (Ok r) = text r
said_of (Err f) = refusal_text (of_desk f)
