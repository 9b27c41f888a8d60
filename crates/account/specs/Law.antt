-- The law over every run of a book: from its opening on, whatever calls come, it agrees with an account of them.
use Rattle.std.specs.Prelude.{◌≡◌, ℕ, ◌+◌, ◌<◌, Bool, true, cond, List, [], ◌∷◌, length, Ok, Err, is_some, option_map, sum_by, IfSome, None, false, Result}
use Rattle.fault.specs.Judging.{unless}
use Rattle.fault.specs.declared.book.BookFault.{BookFault}
use Rattle.fault.specs.declared.book.BookFault.TheVariants as fault
use Rattle.semilightpath.specs.Cheapest.{HasNone}
use Rattle.network.specs.declared.counts.Counts.{Counts}
use Rattle.network.specs.declared.step.Step.{Step}
use Rattle.network.specs.Steps.{Within, on, distinct}
use Rattle.semilightpath.specs.Scenes.{alone}
use Rattle.semilightpath.specs.Paths.{IsSemilightpath}
use Rattle.semilightpath.specs.Costs.{cost}
use Rattle.records.specs.Chains.{circuit_count, holder, channel_at}
use Rattle.records.specs.Standing.{Standing}
use Rattle.records.specs.Sound.{names}
use Rattle.records.specs.Held.{held}
use Rattle.moment.specs.Usable.{span_is_open}
use Rattle.pricing.specs.Pricing.{Prices}
use Rattle.book.specs.declared.Book.{Book}
use Rattle.book.specs.declared.offer.Offer.{Offer}
use Rattle.book.specs.declared.status.Status.{Status}
use Rattle.book.specs.State.{Tables, tables, Kept}
use Rattle.book.specs.Changes.{circuit_in, path_in, standing_in}
use Rattle.book.specs.declared.status.State.TheVariants as state
use Rattle.book.specs.Answering.{OfferAnswers, spent, slipped}
use Rattle.book.specs.Refusing.{is_lit, look_refusal, shut_refusal}
use Rattle.book.specs.Calls.{Offers, Confirms, Withdraws, Darkens, Shuts, Tries, Looks, Slips, Reckons}
use Rattle.account.specs.Events.{Event, offers, confirms, withdraws, darkens, shuts, tries, slips, looks, reckons}
use Rattle.account.specs.Accounts.{Entry, Account, account, noted, lit_by, standing_by, path_by, is_held, held_by, scene_by}
use Rattle.account.specs.Due.{offer_due, spend_due, darken_due, trial_due, slip_due, reckon_due}

-- what a call's contract ensures, where tables x stood before and y stand after
abbrev pub Ensured : Counts → ℕ → Tables → Event → Tables → Type 0
Ensured n mark x (offers q c p r) y = (p ≡ path_in n y c) × Offers q.kind q.net n mark x c q.from q.to q.room r y
Ensured n mark x (confirms o r) y = Confirms n mark x o r y
Ensured n mark x (withdraws o r) y = Withdraws n mark x o r y
Ensured n mark x (darkens c r) y = Darkens n x c r y
Ensured n mark x (shuts e r) y = Shuts n x e r y
Ensured n mark x (tries q e r) y = (y ≡ x) × Tries q.kind q.net n x q.from q.to e q.room r
Ensured n mark x (slips w c b r b') y = (y ≡ x) × Slips w n x c b r b'
Ensured n mark x (looks c r) y = (y ≡ x) × Looks n x c r
Ensured n mark x (reckons w k c r) y = (y ≡ x) × Reckons k w n x c r

-- a call leads from a book to a book
pub record LeadsTo (b : Book) (e : Event) (b' : Book) : Type 0 where
  pub kept : Kept b b'
  pub call : Ensured b.extent.counts b.mark (tables b) e (tables b')

-- the runs that begin at a book: no call, or one call more, the last first
pub data Run (opened : Book) : List Event → Book → Type 0 where
  no_call : Run opened [] opened
  one_more : {h : List Event} {b b' : Book} {e : Event} → Run opened h b → LeadsTo b e b' → Run opened (e ∷ h) b'

-- what is told of a circuit that stands, lit or offered
abbrev pub status_by : Bool → Standing → Status
status_by lit z = record { state = cond lit state.Lit state.Offered; from = z.from; to = z.to; steps = length z.path }

-- an answer is right by the account a of the calls before it, of which l tells what they lit, at a book opened for the counts n, with this mark
abbrev pub IsRight : Counts → ℕ → Account → (ℕ → Bool) → Event → Type 0
IsRight n mark a l (offers q c p r) = OfferAnswers q.kind (scene_by q.net a) mark c q.from q.to p (offer_due n a q c) r
IsRight n mark a l (confirms o r) = r ≡ spent (spend_due mark a l o) o o.circuit
IsRight n mark a l (withdraws o r) = r ≡ spent (spend_due mark a l o) o (length (path_by a o.circuit))
IsRight n mark a l (darkens c r) = r ≡ unless (darken_due l c) (length (path_by a c))
IsRight n mark a l (shuts e r) = r ≡ unless (shut_refusal n e) tt
IsRight n mark a l (tries q e r) = Prices q.kind (scene_by q.net (noted e a)) q.from q.to (trial_due n q e) r
IsRight n mark a l (slips w c b r b') =
    (r ≡ unless (slip_due n a w c (length b)) (length (path_by a c) + 1)) × (b' ≡ slipped (slip_due n a w c (length b)) w (path_by a c) b)
IsRight n mark a l (looks c r) = r ≡ unless (look_refusal c) (option_map (status_by (l c)) (standing_by a c))
IsRight n mark a l (reckons w k c r) = r ≡ unless (reckon_due n a w c) (cost k (alone w) (path_by a c))

-- an answer is 29; so it is where an offer in hand is handed back with it
abbrev pub is_no_path : BookFault → Bool
is_no_path fault.NoPath = true
is_no_path f = false

abbrev pub tells_29 : {A : Type 0} → Result A BookFault → Bool
tells_29 (Ok v) = false
tells_29 (Err f) = is_no_path f

abbrev pub returns_29 : {A : Type 0} → Result A (BookFault × Offer) → Bool
returns_29 (Ok v) = false
returns_29 (Err f) = is_no_path f.0

abbrev pub is_29 : Event → Bool
is_29 (offers q c p r) = tells_29 r
is_29 (confirms o r) = returns_29 r
is_29 (withdraws o r) = returns_29 r
is_29 (darkens c r) = tells_29 r
is_29 (shuts e r) = tells_29 r
is_29 (tries q e r) = tells_29 r
is_29 (slips w c b r b') = tells_29 r
is_29 (looks c r) = tells_29 r
is_29 (reckons w k c r) = tells_29 r

-- no refusal is due of an offer or a trial, and no semilightpath leads there over what can be used; of other calls there is no such case
abbrev pub NoneLeads : Counts → Account → Event → Type 0
NoneLeads n a (offers q c p r) = (offer_due n a q c ≡ None) × HasNone (scene_by q.net a) q.from q.to
NoneLeads n a (tries q e r) = (trial_due n q e ≡ None) × HasNone (scene_by q.net (noted e a)) q.from q.to
NoneLeads n a e = ⊥

-- each answer is right, and 29 came in that case alone
abbrev pub AllRight : Counts → ℕ → List Event → Type 0
AllRight n mark [] = Unit {0}
AllRight n mark (e ∷ h) = IsRight n mark (account h) (lit_by h) e × (is_29 e ≡ true → NoneLeads n (account h) e) × AllRight n mark h

-- the steps that accepted offers told
abbrev pub steps_told : Event → ℕ
steps_told (offers q c p (Ok r)) = r.steps
steps_told e = 0

-- the channels that accepted withdrawals and darkenings told
abbrev pub channels_told : Event → ℕ
channels_told (withdraws o (Ok k)) = k
channels_told (darkens c (Ok k)) = k
channels_told e = 0

-- a circuit's path is a semilightpath of its network between the nodes that were ordered, and takes no channel twice
abbrev pub IsPath : Entry → Type 0
IsPath z = IsSemilightpath (alone z.net) z.standing.from z.standing.to z.standing.path × (distinct z.standing.path ≡ true)

-- tables x agree with the account of the calls h
pub record Agrees (n : Counts) (mark : ℕ) (h : List Event) (x : Tables) : Type 0 where
  -- the circuits that stand are the account's, with their nodes and paths, and the spans of the network that are open
  pub stands : (c : ℕ) → standing_in n x c ≡ standing_by (account h) c
  pub opens : (e : ℕ) → e < n.spans → span_is_open x.spans e ≡ (account h).is_open e
  -- the circuits that are lit are those that the calls lit
  pub lit : (c : ℕ) → c < circuit_count → is_lit (circuit_in x c) ≡ lit_by h c
  -- each standing path is a semilightpath between its nodes
  pub paths : (c : ℕ) → IfSome ((account h).entry c) IsPath
  -- a channel's record names a circuit just where the channel lies on that circuit's path, and any circuit just where the channel is held
  pub named : (c : ℕ) (s : Step) → Within n s → names c (holder (channel_at n x.channels s)) ≡ on s (path_by (account h) c)
  pub holds : (s : Step) → Within n s → is_some (channel_at n x.channels s) ≡ is_held (account h) s
  -- the steps that offers told are the channels that withdrawals and darkenings told, and those that are held now; so many records name a circuit
  pub ledger : sum_by steps_told h ≡ sum_by channels_told h + held_by n (account h)
  pub counted : held n x.channels ≡ held_by n (account h)
  -- each answer was right by the account of the calls before it
  pub right : AllRight n mark h

-- every run that begins at this book agrees with its account, at every moment
abbrev pub Law : Book → Type 0
Law opened = (h : List Event) (b : Book) → Run opened h b → Agrees opened.extent.counts opened.mark h (tables b)
