-- Tables for the largest network have room for every plan, and labels for every search.
use Rattle.std.proofs.Common.{◌≡◌, ℕ, ◌*◌, ◌≤◌, true, List, [], ◌∷◌, None, Some, Option, refl, sym, ap, ◌∙◌, mul-le-mul, arith}
use Rattle.std.specs.Option.{option_map, option_or}
use Rattle.std.proofs.lemmas.Bool.{and_from, cond-true, le-leb}
use Rattle.fault.specs.Judging.{judge, first, inside}
use Rattle.fault.specs.declared.book.BookFault.{BookFault}
use Rattle.fault.specs.declared.book.BookFault.TheVariants.{LoadTable}
use Rattle.fault.specs.declared.plan.FileFault.{FileFault}
use Rattle.fault.specs.declared.plan.FileFault.TheVariants.{Section}
use Rattle.fault.specs.declared.plan.LoadFault.TheVariants.{File, Book}
use Rattle.fault.proofs.Judged.{first-append, first-inside}
use Rattle.network.specs.declared.counts.Counts.{Counts}
use Rattle.network.specs.Extents.{Counted}
use Rattle.network.specs.Tariffs.{span_entries, converter_entries}
use Rattle.plan.specs.Header.{header, header_faults, counts_of}
use Rattle.plan.specs.Plan.{file_faults, section_faults, load_faults, roomy}
use Rattle.plan.proofs.Heads.{headed}

room_for : (n : Counts) (t c : ℕ) → Counted n → 4096 ≤ t → 16384 ≤ c → roomy n t c ≡ true
room_for n t c k spans nodes =
    let pairs : n.nodes * n.channels ≤ 64 * 16 = mul-le-mul k.1 k.4 in
    let most : span_entries n ≤ 256 * 16 = mul-le-mul k.2 k.4 in
    let most' : converter_entries n ≤ 64 * 16 * 16 = mul-le-mul pairs k.4 in
    and_from _ _ (le-leb (span_entries n) t (omega arith)) (le-leb (converter_entries n) c (omega arith))

none_left : {F : Type 0} (a b : Option F) → option_or a b ≡ None → a ≡ None
none_left None b e = refl
none_left (Some f) b e = e

module _ (bs : List ℕ) (t c : ℕ) (spans : 4096 ≤ t) (nodes : 16384 ≤ c) where
  head_sound : first (file_faults bs) ≡ None → first (header_faults bs) ≡ None
  head_sound e = none_left _ _ (sym (first-append (header_faults bs) (inside Section (section_faults bs (header bs)))) ∙ e)

  joined : first (load_faults bs t c) ≡ option_or (option_map File (first (file_faults bs))) (first (judge (roomy (counts_of (header bs)) t c) (Book LoadTable) ∷ []))
  joined =
      first-append (inside File (file_faults bs)) (judge (roomy (counts_of (header bs)) t c) (Book LoadTable) ∷ [])
      ∙ ap (λ r. option_or r (first (judge (roomy (counts_of (header bs)) t c) (Book LoadTable) ∷ []))) (first-inside File (file_faults bs))

  -- so the plan's faults are all that there is
  alone : (due : Option FileFault) → first (file_faults bs) ≡ due → first (load_faults bs t c) ≡ option_map File due
  alone (Some f) e = joined ∙ ap (λ d. option_or (option_map File d) (first (judge (roomy (counts_of (header bs)) t c) (Book LoadTable) ∷ []))) e
  alone None e =
      joined
      ∙ ap (λ d. option_or (option_map File d) (first (judge (roomy (counts_of (header bs)) t c) (Book LoadTable) ∷ []))) e
      ∙ cond-true (roomy (counts_of (header bs)) t c) None (Some (Book LoadTable)) (room_for (counts_of (header bs)) t c (headed bs (head_sound e)).counted spans nodes)

  back_none : (due : Option FileFault) → option_map File due ≡ None → due ≡ None
  back_none None e = refl
  back_none (Some f) e = cc

  back_some : (due : Option FileFault) (f : FileFault) → option_map File due ≡ Some (File f) → due ≡ Some f
  back_some None f e = cc
  back_some (Some g) f e = cc

  no_book : (due : Option FileFault) (g : BookFault) → option_map File due ≡ Some (Book g) → ⊥
  no_book None g e = cc
  no_book (Some f) g e = cc

  pub accepted : first (load_faults bs t c) ≡ None → first (file_faults bs) ≡ None
  accepted e = back_none (first (file_faults bs)) (sym (alone (first (file_faults bs)) refl) ∙ e)

  pub refused : (f : FileFault) → first (load_faults bs t c) ≡ Some (File f) → first (file_faults bs) ≡ Some f
  refused f e = back_some (first (file_faults bs)) f (sym (alone (first (file_faults bs)) refl) ∙ e)

  pub never_short : (g : BookFault) → first (load_faults bs t c) ≡ Some (Book g) → ⊥
  never_short g e = no_book (first (file_faults bs)) g (sym (alone (first (file_faults bs)) refl) ∙ e)
