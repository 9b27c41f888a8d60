-- A slip tells its path.
use Rattle.std.specs.List.{range_with_len}
use Rattle.std.proofs.Common.{◌≡◌, ℕ, zero, suc, ◌+◌, ◌-◌, ◌<◌, ◌≤◌, List, ◌∷◌, ◌++◌, map, length, replicate, refl, sym, ap, ◌∙◌, arith}
use Rattle.std.proofs.lemmas.List.FromFn.{get_or-map-range_with_len, length-map-range_with_len}
use Rattle.std.proofs.lemmas.Option.{slice_get_past, slice_get_within}
use Rattle.network.specs.Net.{Net}
use Rattle.network.specs.declared.step.Step.{Step}
use Rattle.slip.proofs.Written.{written_all}
use Rattle.slip.specs.declared.setting.Setting.{Setting}
use Rattle.slip.specs.Slips.{setting_along, blank, slip, settings, setting_at, Leads, SettingsLead, Tells}

-- a table made by a rule is two, one behind the other
in_two : (f : ℕ → Setting) (m n start : ℕ) → map f (range_with_len start (m + n)) ≡ map f (range_with_len start m) ++ map f (range_with_len (start + m) n)
in_two f zero n start = let a : 0 + n ≡ n = omega arith in let b : start + 0 ≡ start = omega arith in rw (a, b)
in_two f (suc m) n start =
    let a : suc m + n ≡ suc (m + n) = omega arith in
    let b : start + suc m ≡ start + 1 + m = omega arith in
    rw (a, b) (ap (λ xs. f start ∷ xs) (in_two f m n (start + 1)))

-- where the rule says blank from a place on, they are blanks
all_blank : (f : ℕ → Setting) (n start : ℕ) → ((i : ℕ) → start ≤ i → f i ≡ blank) → map f (range_with_len start n) ≡ replicate n blank
all_blank f zero start none = refl
all_blank f (suc n) start none = rw (none start (omega arith)) (ap (λ xs. blank ∷ xs) (all_blank f n (start + 1) (λ i past. none i (omega arith))))

module _ (w : Net) (p : List Step) where
  -- beyond the node where the path ends
  beyond : (i : ℕ) → length p + 1 ≤ i → setting_along w p i ≡ blank
  beyond zero past = absurd (omega arith)
  beyond (suc i) past = rw (slice_get_past p i (omega arith), slice_get_past p (suc i) (omega arith))

  behind : (room : ℕ) → length p + 1 ≤ room → slip w p room ≡ settings w p ++ replicate (room - (length p + 1)) blank
  behind room enough =
      let f : ℕ → Setting = setting_along w p in
      let parts : length p + 1 + (room - (length p + 1)) ≡ room = omega arith in
      let start : 0 + (length p + 1) ≡ length p + 1 = omega arith in
      ap (λ n. slip w p n) (sym parts) ∙ in_two f (length p + 1) (room - (length p + 1)) 0
      ∙ ap (λ xs. settings w p ++ xs) (ap (λ n. map f (range_with_len n (room - (length p + 1)))) start ∙ all_blank f (room - (length p + 1)) (length p + 1) beyond)

  -- the setting at a place
  placed : (i j : ℕ) → j ≡ i → i ≤ length p → setting_at (settings w p) j ≡ setting_along w p i
  placed i j same low = get_or-map-range_with_len (setting_along w p) 0 (length p + 1) j i blank (omega arith) (omega arith)

  leads : Leads w p (settings w p)
  leads = record {
    begins = rw (placed 0 0 refl (omega arith));
    node = λ i e is. let low : i < length p = slice_get_within p i e is in rw (placed i i refl (omega arith), is);
    output = λ i e is. let low : i < length p = slice_get_within p i e is in rw (placed i i refl (omega arith), is);
    input = λ i e is. let low : i < length p = slice_get_within p i e is in rw (placed (suc i) (i + 1) (omega arith) (omega arith), is);
    arrives = λ i e is last. rw (placed (suc i) (i + 1) (omega arith) (omega arith), is, slice_get_past p (suc i) (omega arith));
    ends = rw (placed (length p) (length p) refl (omega arith), slice_get_past p (length p) (omega arith));
  }

  pub settings_lead : SettingsLead w p
  settings_lead = record { count = length-map-range_with_len (setting_along w p) 0 (length p + 1); leads = leads }

  -- so a table does that has the setting of each of its places, where it has room for all
  pub tells : (table : List Setting) → ((k : ℕ) → k < length table → setting_at table k ≡ setting_along w p k) → length p + 1 ≤ length table → Tells w p table
  tells table written enough = written_all w p (length table) table refl written ∙ behind (length table) enough
