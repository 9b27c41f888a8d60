-- What a line that is cut says.
use Rattle.std.proofs.Common.{◌≡◌, ℕ, ◌<◌, ◌≤◌, true, leb, List, map, length, get_or, take, drop, Some, None, Err, sym, ap, ◌∙◌, ⊎_elim, arith}
use Rattle.std.proofs.lemmas.List.{drop-map, drop_more, length-take-le, take_all}
use Rattle.std.proofs.lemmas.Bool.{cond-false, cond-true, and_right, cases_lt, lt-leb}
use Rattle.fault.specs.Judging.{first, unless}
use Rattle.fault.proofs.Judged.{inside_some, inside_none}
use Rattle.fault.specs.declared.ticket.WordFault.{WordFault}
use Rattle.fault.specs.declared.ticket.TicketFault.TheVariants as fault
use Rattle.ticket.specs.declared.word.Word.{Word}
use Rattle.ticket.specs.Lines.{of_length, of_line, token_of, place, words}
use Rattle.ticket.specs.Tickets.{then, beyond, meaning, ticket_of}

-- the first of the words from k on
pub surplus : (ws : List Word) (d : Word) (k n : ℕ) → k < length ws → place (token_of (get_or ws k d)) ≡ beyond n (drop k (map token_of ws))
surplus ws d k n h = sym (ap (beyond n) (drop-map token_of k ws ∙ ap (map token_of) (drop_more ws k d h)))

-- a line of a sound length
pub ticket_faulty : (bs : List ℕ) (f : WordFault) → of_length bs ≡ true → first (of_line bs) ≡ Some f → ticket_of bs ≡ Err (fault.Word f)
ticket_faulty bs f sound h =
    ap (λ o. then (unless o (words bs)) (meaning (length bs))) (cond-true _ _ _ sound ∙ inside_some fault.Word (of_line bs) f h)

pub ticket_sound : (bs : List ℕ) → of_length bs ≡ true → first (of_line bs) ≡ None → ticket_of bs ≡ meaning (length bs) (words bs)
ticket_sound bs sound h =
    ap (λ o. then (unless o (words bs)) (meaning (length bs))) (cond-true _ _ _ sound ∙ inside_none fault.Word (of_line bs) h)

-- a line of over 80 bytes is refused by its length alone
too_long : (bs : List ℕ) → 80 < length bs → ticket_of bs ≡ Err fault.Length
too_long bs h =
    ap (λ o. then (unless o (words bs)) (meaning (length bs))) (cond-false _ _ _ (and_right (leb 1 (length bs)) _ (lt-leb (length bs) 80 h)))

pub long_line : (bs : List ℕ) → ticket_of (take 81 bs) ≡ ticket_of bs
long_line bs =
    ⊎_elim
    (λ (h : 80 < length bs). let l = length-take-le 81 bs (omega arith) in too_long (take 81 bs) (omega (arith, l)) ∙ sym (too_long bs h))
    (λ (h : length bs ≤ 80). ap ticket_of (take_all 81 bs (omega arith)))
    (cases_lt 80 (length bs))
