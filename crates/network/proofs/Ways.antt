-- The ways from a node, and the exits from a channel.
use Rattle.std.proofs.Common.{◌≡◌, ℕ, ◌+◌, ◌-◌, ◌*◌, ◌<◌, ◌≤◌, Bool, true, false, cond, ◌&&◌, eqb, nat_lt, List, [], ℤ, Some, None, take, slice_index_or, slice_range, refl, sym, ap, ◌∙◌, subst, arith}
use Rattle.std.specs.List.{range_with_len, All, Contains}
use Rattle.std.specs.Option.{unwrap_or}
use Rattle.std.proofs.lemmas.Bool.{eqb-true}
use Rattle.std.proofs.lemmas.Bool.Decides.{nat_tests}
use Rattle.std.proofs.lemmas.List.{get_or-take}
use Rattle.std.proofs.lemmas.List.Elements.{All-filter, filter_passes}
use Rattle.network.specs.declared.Network.{Network}
use Rattle.network.specs.declared.counts.Counts.{Counts}
use Rattle.network.specs.declared.span.Span.{Span}
use Rattle.network.specs.declared.spacing.Spacing.{Spacing}
use Rattle.network.specs.Tariffs.{absent, tariff, span_entries, span_entry, converter_entries, converter_entry}
use Rattle.network.specs.Limits.{Joined, span_at}
use Rattle.network.specs.Indexes.{start_at, width_at, row_at, leaving_by, Indexed}
use Rattle.network.specs.Rates.{span_mark, exit_mark, way_at, exit_at, Ordered, Wayed, Exited}
use Rattle.network.specs.Net.{Net, net, value, leaving, tariff_of, converter_of}
use Rattle.network.specs.Rows.{span_rate, exit_rate, Ways, Exits}
use Rattle.network.proofs.Charged.{IfSome-tariff_of, IfSome-converter_of}
use Rattle.network.proofs.Entries.{span_entry_lem, converter_entry_lem}
use Rattle.network.proofs.Leaving.{Contains-from_Listed, leaving_all, row_is, no_row}
use Rattle.network.proofs.Ranked.{All-range_with_len, Contains-range_with_len, on_row, All-row, rated, ByRate-rated, ByRate-none, rate_is, absent_is}

leaving_below : (n : ℕ) (ends : List Span) (u : ℕ) → All (λ e. e < n) (leaving_by n ends u)
leaving_below n ends u = All-filter (λ e. eqb (span_at ends e).tail u) (λ e. e < n) (range_with_len 0 n) (All-range_with_len n)

-- the rows of an index
pub ordered : (n : Counts) (ends : List Span) (order starts : List ℕ) → n.spans ≤ 256 → Indexed n ends order starts → Ordered n order starts
ordered n ends order starts few indexed u h =
    let r = indexed u h in (r.0, r.1, subst (All (λ e. e < 256)) (sym r.2) (λ k d l. omega (arith, leaving_below n.spans ends u k d l)))

-- an entry tells the rate, where a test asks for it
told : (b : Bool) (x y : ℕ) → (b ≡ true → x ≡ y) → unwrap_or (cond b (tariff x) None) absent ≡ rated (cond b y absent)
told true x y h = ap rated (h refl)
told false x y h = refl

module _ (n : Counts) (spacing : Spacing) (numbers : List ℤ) (ends : List Span) (tariffs converters : List ℕ) where
  abbrev here : Net
  here = value n spacing numbers ends tariffs converters

  span_rated : (c e : ℕ) → span_rate here c e ≡ rated (span_mark n tariffs c e)
  span_rated c e =
      told (nat_lt e n.spans && nat_lt c n.channels) _ _
      (λ t. get_or-take (span_entries n) tariffs (span_entry n e c) absent (span_entry_lem n e c (grind (arith, nat_tests)) (grind (arith, nat_tests))))

  exit_rated : (u a b : ℕ) → exit_rate here u a b ≡ rated (exit_mark n converters u a b)
  exit_rated u a b =
      told (nat_lt u n.nodes && (nat_lt a n.channels && nat_lt b n.channels)) _ _
      (λ t. get_or-take (converter_entries n) converters (converter_entry n u a b) absent (converter_entry_lem n u a b (grind (arith, nat_tests)) (grind (arith, nat_tests)) (grind (arith, nat_tests))))

  -- the row of a node and a channel
  pub ways_are : (order starts ways : List ℕ) (u c channels start end : ℕ) → Indexed n ends order starts → Wayed n order starts tariffs ways → u < n.nodes → c < n.channels
      → channels ≡ n.channels → start ≡ start_at starts u → end ≡ start_at starts (u + 1)
      → Ways here u c (slice_range ways (start * channels + c * (end - start)) (start * channels + c * (end - start) + (end - start)))
  ways_are order starts ways u c channels start end indexed wayed hu hc many from to =
      let place : slice_range ways (start * channels + c * (end - start)) (start * channels + c * (end - start) + (end - start)) ≡ slice_range ways (way_at n starts u c) (way_at n starts u c + width_at starts u) =
      λ i. slice_range ways (from i * many i + c * (to i - from i)) (from i * many i + c * (to i - from i) + (to i - from i)) in
      ByRate-rated (span_mark n tariffs c) (span_rate here c) (row_at order starts u) (leaving here u) _ _ (span_rated c) (row_is n ends order starts u _ _ indexed hu refl refl) (sym place) (wayed u c hu hc)

  -- no way leaves what is no node
  pub no_ways : (u c : ℕ) → Joined n ends → n.nodes ≤ u → Ways here u c []
  no_ways u c joined h = ByRate-none (span_rate here c) (leaving here u) (no_row n ends u joined h)

  -- the row of a node and a channel to convert from
  pub exits_are : (exits : List ℕ) (u a channels : ℕ) → Exited n converters exits → u < n.nodes → a < n.channels → channels ≡ n.channels
      → Exits here u a (slice_range exits ((u * channels + a) * channels) ((u * channels + a) * channels + channels))
  exits_are exits u a channels exited hu ha many =
      let place : slice_range exits ((u * channels + a) * channels) ((u * channels + a) * channels + channels) ≡ slice_range exits (exit_at n u a) (exit_at n u a + n.channels) =
      λ i. slice_range exits ((u * many i + a) * many i) ((u * many i + a) * many i + many i) in
      ByRate-rated (exit_mark n converters u a) (exit_rate here u a) (range_with_len 0 n.channels) _ _ _ (exit_rated u a) refl (sym place) (exited u a hu ha)

module _ (w : Net) (u c : ℕ) (row : List ℕ) (ways : Ways w u c row) where
  -- each of the ways is a span of the network that has the node for its tail
  pub Ways-tail : All (λ e. (e < w.counts.spans) × ((span_at w.ends e).tail ≡ u)) row
  Ways-tail = All-row (span_rate w c) (leaving w u) row ways (λ e. (e < w.counts.spans) × ((span_at w.ends e).tail ≡ u))
      (λ k d h. (leaving_below w.counts.spans w.ends u k d h, eqb-true _ _ (filter_passes (λ e. eqb (span_at w.ends e).tail u) (range_with_len 0 w.counts.spans) k d h)))

  -- each span whose tail is the node is among them
  pub Ways-all : (e : ℕ) → e < w.counts.spans → (span_at w.ends e).tail ≡ u → Contains row e
  Ways-all e h t = on_row (span_rate w c) (leaving w u) row ways e (Contains-from_Listed (leaving w u) e (leaving_all w u e h t))

module _ (w : Net) (u a : ℕ) (row : List ℕ) (exits : Exits w u a row) where
  -- each of the exits is a channel of the network
  pub Exits-below : All (λ b. b < w.counts.channels) row
  Exits-below = All-row (exit_rate w u a) (range_with_len 0 w.counts.channels) row exits (λ b. b < w.counts.channels) (All-range_with_len w.counts.channels)

  -- each channel is among them
  pub Exits-all : (b : ℕ) → b < w.counts.channels → Contains row b
  Exits-all b h = on_row (exit_rate w u a) (range_with_len 0 w.counts.channels) row exits b (Contains-range_with_len w.counts.channels b h)

module _ (w : Net) where
  -- a rate below absent is the tariff
  pub span_rate_is : (c e : ℕ) → span_rate w c e < absent → tariff_of w e c ≡ Some (span_rate w c e)
  span_rate_is c e h = rate_is (tariff_of w e c) (IfSome-tariff_of w e c) h

  pub exit_rate_is : (u a b : ℕ) → exit_rate w u a b < absent → converter_of w u a b ≡ Some (exit_rate w u a b)
  exit_rate_is u a b h = rate_is (converter_of w u a b) (IfSome-converter_of w u a b) h

  -- and there is none where it is absent
  pub span_absent : (c e : ℕ) → span_rate w c e ≡ absent → tariff_of w e c ≡ None
  span_absent c e h = absent_is (tariff_of w e c) (IfSome-tariff_of w e c) h

  pub exit_absent : (u a b : ℕ) → exit_rate w u a b ≡ absent → converter_of w u a b ≡ None
  exit_absent u a b h = absent_is (converter_of w u a b) (IfSome-converter_of w u a b) h

-- no node converts from a channel into itself
pub converter_itself : (w : Network) (u a : ℕ) → converter_of (net w) u a a ≡ None
converter_itself w u a = go (nat_lt u n.nodes && (nat_lt a n.channels && nat_lt a n.channels)) refl
  where
    n : Counts
    n = w.extent.counts

    entry : ℕ
    entry = slice_index_or (take (converter_entries n) w.converters.now) (converter_entry n u a a) absent

    is_none : u < n.nodes → a < n.channels → entry ≡ absent
    is_none hu ha = get_or-take (converter_entries n) w.converters.now (converter_entry n u a a) absent (converter_entry_lem n u a a hu ha ha) ∙ w.proper u a (hu, ha)

    go : (b : Bool) → (nat_lt u n.nodes && (nat_lt a n.channels && nat_lt a n.channels)) ≡ b → cond b (tariff entry) None ≡ None
    go true t = ap tariff (is_none (grind (arith, nat_tests)) (grind (arith, nat_tests)))
    go false t = refl
