-- A slip is refused where the path's settings have no room from the place on, and else they are what is written there.
use Rattle.std.proofs.Common.{◌≡◌, ℕ, ◌+◌, ◌-◌, ◌≤◌, min, List, [], ◌∷◌, ◌++◌, map, length, take, Some, None, Ok, Err, Option, Result, refl, sym, ap, ◌∙◌, arith, nat_le}
use Rattle.std.proofs.lemmas.Bool.Decides.{nat_tests}
use Rattle.std.proofs.lemmas.List.{take_at}
use Rattle.std.proofs.lemmas.Nat.{mul-le}
use Rattle.fault.specs.Judging.{judge, first, unless}
use Rattle.fault.specs.Reports.{of_book}
use Rattle.fault.specs.declared.book.BookFault.{BookFault}
use Rattle.fault.specs.declared.book.BookFault.TheVariants.{SlipBuffer}
use Rattle.network.specs.declared.counts.Counts.{Counts}
use Rattle.network.specs.Extents.{Counted}
use Rattle.network.specs.Net.{Net}
use Rattle.network.specs.Tables.{laid}
use Rattle.network.specs.Tariffs.{arrival_entries}
use Rattle.records.specs.declared.circuit.Route.{Route}
use Rattle.records.specs.Chains.{along, route_of}
use Rattle.records.specs.Sound.{RoutesWhole}
use Rattle.slip.specs.declared.setting.Setting.{Setting}
use Rattle.slip.specs.Slips.{settings, Tells}
use Rattle.book.specs.Calls.{Slips}
use Rattle.book.specs.Changes.{path_in}
use Rattle.book.specs.Refusing.{of_slip}
use Rattle.book.specs.State.{Tables}
use Rattle.cabinet.specs.declared.reply.Reply.{Reply}
use Rattle.cabinet.specs.declared.switch.Switch.{Switch}
use Rattle.cabinet.specs.Replies.{counted, refused, counted_or_refused}
use Rattle.cabinet.specs.Serving.{place_refusal, switched, SlipsAt}
use Rattle.cabinet.specs.Switches.{switch}

-- a path whose records are whole has no more steps than the largest network has arrivals
pub path_short : (n : Counts) (x : Tables) (c : ℕ) → Counted n → RoutesWhole n x.channels x.circuits → length (path_in n x c) ≤ 1024
path_short n x c k whole = go (route_of x.circuits c) refl
  where
    go : (o : Option Route) → route_of x.circuits c ≡ o → length (along n x.channels o) ≤ 1024
    go None e = omega arith
    go (Some r) e =
        let few : arrival_entries n ≤ 1024 = mul-le n.nodes n.channels 64 16 k.1 k.4 in
        let w = whole c r e in omega (arith, few, w.all, w.short)

module _ (w : Net) (n : Counts) (x : Tables) (c place : ℕ) (old : List Switch) (a : Result ℕ BookFault) (buffer after : List Setting) (r : Reply)
    (short : length (path_in n x c) ≤ 1024) (room : length buffer ≡ min (length old - place) 1025) (slips : Slips w n x c buffer a after) where
  -- the buffer has room for the settings just where the switches have
  same_room : nat_le (length (path_in n x c) + 1) (length buffer) ≡ nat_le (place + length (path_in n x c) + 1) (length old)
  same_room = grind (arith, nat_tests)

  same_answer : a ≡ unless (place_refusal w n x c place old) (length (path_in n x c) + 1)
  same_answer = slips.answer ∙ ap (λ b. unless (first (of_slip n w.counts x c ++ judge b SlipBuffer ∷ [])) (length (path_in n x c) + 1)) same_room

  put_where : (k : ℕ) (due : Option BookFault) (new : List Switch) → ◌≡◌ {A = Result ℕ BookFault} (Ok k) (unless due (length (path_in n x c) + 1)) → Tells w (path_in n x c) after → length (settings w (path_in n x c)) ≡ length (path_in n x c) + 1
      → new ≡ laid place (map switch (take k after)) old → new ≡ switched due w (path_in n x c) place old
  put_where k None new e told long put =
      let count : k ≡ length (path_in n x c) + 1 = cc in
      let front = ap (take k) told ∙ take_at (settings w (path_in n x c)) _ k (long ∙ sym count) in
      put ∙ ap (λ l. laid place (map switch l) old) front
  put_where k (Some f) new e told long put = cc

  left_where : (f : BookFault) (due : Option BookFault) → ◌≡◌ {A = Result ℕ BookFault} (Err f) (unless due (length (path_in n x c) + 1)) → old ≡ switched due w (path_in n x c) place old
  left_where f None e = cc
  left_where f (Some g) e = refl

  pub slipped_ok : (k : ℕ) (new : List Switch) → a ≡ Ok k → Tells w (path_in n x c) after → length (settings w (path_in n x c)) ≡ length (path_in n x c) + 1 → r ≡ counted k → new ≡ laid place (map switch (take k after)) old → SlipsAt w n x c place old r new
  slipped_ok k new is told long reply put = record {
    answer = reply ∙ ap counted_or_refused (sym is ∙ same_answer);
    switches = put_where k _ new (sym is ∙ same_answer) told long put;
  }

  pub slipped_err : (f : BookFault) → a ≡ Err f → r ≡ refused (of_book f).number → SlipsAt w n x c place old r old
  slipped_err f is reply = record {
    answer = reply ∙ ap counted_or_refused (sym is ∙ same_answer);
    switches = left_where f _ (sym is ∙ same_answer);
  }
