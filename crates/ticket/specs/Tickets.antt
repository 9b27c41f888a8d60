-- What the words of a line say.
use Rattle.std.specs.Prelude.{ℕ, ◌+◌, cond, List, [], ◌∷◌, length, drop, Some, None, Ok, Err, codes, Option, Result, ◌==◌, slice_index_or}
use Rattle.std.specs.Option.{ok_or}
use Rattle.std.specs.Str.{bytes_eq}
use Rattle.fault.specs.Judging.{Judgement, judge, first, inside, unless}
use Rattle.fault.specs.declared.ticket.TicketFault.{TicketFault}
use Rattle.fault.specs.declared.ticket.TicketFault.TheVariants as fault
use Rattle.ticket.specs.Lines.{Token, number, name, place, value, of_length, of_line, words}
use Rattle.ticket.specs.declared.CostKind.{CostKind}
use Rattle.ticket.specs.declared.CostKind.TheVariants as kind
use Rattle.ticket.specs.declared.Order.{Order}
use Rattle.ticket.specs.declared.Trial.{Trial}
use Rattle.ticket.specs.declared.Ticket.{Ticket}
use Rattle.ticket.specs.declared.Ticket.TheVariants as ticket
use Rattle.ticket.specs.declared.verb.Verb.{Verb}
use Rattle.ticket.specs.declared.verb.Verb.TheVariants as verb

abbrev pub then : {A B E : Type 0} → Result A E → (A → Result B E) → Result B E
then (Ok x) k = k x
then (Err e) k = Err e

-- what bytes name, by a list of names and what each stands for
abbrev pub named : {A : Type 0} → List (List ℕ × A) → List ℕ → Option A
named [] w = None
named (n ∷ ns) w = cond (bytes_eq w n.0) (Some n.1) (named ns w)

abbrev pub verbs : List (List ℕ × Verb)
verbs =
    (codes "LIGHT", verb.Light) ∷
    (codes "QUOTE", verb.Quote) ∷
    (codes "TRIAL", verb.Trial) ∷
    (codes "DARK", verb.Dark) ∷
    (codes "SHUT", verb.Shut) ∷
    (codes "SLIP", verb.Slip) ∷ []

abbrev pub kinds : List (List ℕ × CostKind)
kinds =
    (codes "SUM", kind.Sum) ∷
    (codes "FEW", kind.Few) ∷
    (codes "WORST", kind.Worst) ∷ []

abbrev pub verb_of : Token → Result Verb TicketFault
verb_of (number at w) = Err (fault.Verb at)
verb_of (name at w) = ok_or (named verbs w) (fault.Verb at)

-- how many words a verb wants after it
abbrev pub wants : Verb → ℕ
wants verb.Light = 4
wants verb.Quote = 4
wants verb.Trial = 4
wants verb.Dark = 1
wants verb.Shut = 1
wants verb.Slip = 1

abbrev pub number_of : Token → Result ℕ TicketFault
number_of (number at w) = Ok (value w)
number_of (name at w) = Err (fault.Sort at)

abbrev pub kind_of : Token → Result CostKind TicketFault
kind_of (number at w) = Err (fault.Sort at)
kind_of (name at w) = ok_or (named kinds w) (fault.Kind at)

-- the place of the first of some words, or the place after the n bytes of the line
abbrev pub beyond : ℕ → List Token → ℕ
beyond n [] = n + 1
beyond n (t ∷ ts) = place t

-- the word at k
abbrev pub nth : List Token → ℕ → Token
nth ts k = slice_index_or ts k (name 0 [])

-- three numbers and a kind of cost, judged from left to right
abbrev pub numbers_and_kind : List Token → Result (ℕ × ℕ × ℕ × CostKind) TicketFault
numbers_and_kind ts =
    then (number_of (nth ts 0)) (λ a.
    then (number_of (nth ts 1)) (λ b.
    then (number_of (nth ts 2)) (λ c.
    then (kind_of (nth ts 3)) (λ kind.
    Ok (a, b, c, kind)))))

-- the order that four words make
abbrev pub order_of : List Token → Result Order TicketFault
order_of ts = then (numbers_and_kind ts) (λ (circuit, from, to, kind). Ok (record { circuit = circuit; from = from; to = to; kind = kind }))

-- the trial that they make
abbrev pub trial_of : List Token → Result Trial TicketFault
trial_of ts = then (numbers_and_kind ts) (λ (from, to, span, kind). Ok (record { from = from; to = to; span = span; kind = kind }))

-- what a verb says with as many words as it wants
abbrev pub told : Verb → List Token → Result Ticket TicketFault
told verb.Light ts = then (order_of ts) (λ o. Ok (ticket.Light o))
told verb.Quote ts = then (order_of ts) (λ o. Ok (ticket.Quote o))
told verb.Trial ts = then (trial_of ts) (λ t. Ok (ticket.Trial t))
told verb.Dark ts = then (number_of (nth ts 0)) (λ c. Ok (ticket.Dark c))
told verb.Shut ts = then (number_of (nth ts 0)) (λ s. Ok (ticket.Shut s))
told verb.Slip ts = then (number_of (nth ts 0)) (λ c. Ok (ticket.Slip c))

-- what a verb asks for with the words after it, in a line of n bytes
abbrev pub asked_by : ℕ → List Token → Verb → Result Ticket TicketFault
asked_by n ts v = cond (length ts == wants v) (told v ts) (Err (fault.Count (beyond n (drop (wants v) ts))))

-- what the words of a line of n bytes say; without a word there is no verb
abbrev pub meaning : ℕ → List Token → Result Ticket TicketFault
meaning n [] = Err (fault.Verb 1)
meaning n (t ∷ ts) = then (verb_of t) (asked_by n ts)

-- the length is judged first, then the bytes
abbrev pub judged : List ℕ → List (Judgement TicketFault)
judged bs = judge (of_length bs) fault.Length ∷ inside fault.Word (of_line bs)

abbrev pub ticket_of : List ℕ → Result Ticket TicketFault
ticket_of bs = then (unless (first (judged bs)) (words bs)) (meaning (length bs))
