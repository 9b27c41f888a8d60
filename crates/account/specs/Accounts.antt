-- An account of the calls: what stands, what is held and what is open, by what the calls were given and answered, and by the paths that offers took.
use Rattle.std.specs.Prelude.{ℕ, zero, suc, Bool, true, false, cond, not, ◌&&◌, ◌||◌, List, [], ◌∷◌, Some, None, Ok, Option, option_map, is_some, ◌/◌, ◌%◌, map, count_by}
use Rattle.std.specs.List.{range_with_len}
use Rattle.network.specs.declared.step.Step.{Step}
use Rattle.network.specs.Net.{Net, tariff_of}
use Rattle.network.specs.Steps.{on, step}
use Rattle.network.specs.Tariffs.{span_entries}
use Rattle.network.specs.declared.counts.Counts.{Counts}
use Rattle.semilightpath.specs.Scenes.{Scene, scene}
use Rattle.records.specs.Chains.{circuit_count}
use Rattle.records.specs.Changes.{but}
use Rattle.records.specs.Standing.{Standing, standing_on}
use Rattle.account.specs.Events.{Asked, Event, offers, confirms, withdraws, darkens, shuts}

-- a circuit that stands: the network over which it was ordered, its nodes and its path
pub record Entry : Type 0 where
  pub net : Net
  pub standing : Standing

pub record Account : Type 0 where
  pub entry : ℕ → Option Entry
  pub is_open : ℕ → Bool

-- at the opening no circuit stands, and all spans are open
abbrev pub empty : Account
empty = record { entry = λ c. None; is_open = λ e. true }

-- circuit c stands so, or is free
abbrev pub with_entry : ℕ → Option Entry → Account → Account
with_entry c z a = record { entry = but c z a.entry; is_open = a.is_open }

-- span e is shut
abbrev pub noted : ℕ → Account → Account
noted e a = record { entry = a.entry; is_open = but e false a.is_open }

abbrev pub ordered : Asked → List Step → Entry
ordered q p = record { net = q.net; standing = standing_on q.from q.to p }

-- an accepted offer puts its circuit there, an accepted withdrawal or darkening removes it, an accepted shutting notes the span; all else leaves the account alone
abbrev pub after_call : Event → Account → Account
after_call (offers q c p (Ok r)) a = with_entry c (Some (ordered q p)) a
after_call (withdraws o (Ok k)) a = with_entry o.circuit None a
after_call (darkens c (Ok k)) a = with_entry c None a
after_call (shuts e (Ok u)) a = noted e a
after_call e a = a

-- the account of calls, of which the last stands first
abbrev pub account : List Event → Account
account [] = empty
account (e ∷ h) = after_call e (account h)

-- which circuits are lit, by the calls: from a confirmation to a darkening. The account itself leaves confirmations alone
abbrev pub lit_after : Event → (ℕ → Bool) → ℕ → Bool
lit_after (confirms o (Ok c)) l = but o.circuit true l
lit_after (darkens c (Ok k)) l = but c false l
lit_after e l = l

abbrev pub lit_by : List Event → ℕ → Bool
lit_by [] = λ c. false
lit_by (e ∷ h) = lit_after e (lit_by h)

-- what the account says of a circuit: whether it stands, how, and along which path
abbrev pub stands_by : Account → ℕ → Bool
stands_by a c = is_some (a.entry c)

abbrev pub standing_by : Account → ℕ → Option Standing
standing_by a c = option_map (λ z. z.standing) (a.entry c)

abbrev pub path_in_entry : Option Entry → List Step
path_in_entry None = []
path_in_entry (Some z) = z.standing.path

abbrev pub path_by : Account → ℕ → List Step
path_by a c = path_in_entry (a.entry c)

-- a circuit below n stands along a path on which the channel lies
unfoldable pub held_below : (ℕ → Option Entry) → ℕ → Step → Bool
held_below f zero s = false
held_below f (suc n) s = on s (path_in_entry (f n)) || held_below f n s

-- a channel on a standing path is held
abbrev pub is_held : Account → Step → Bool
is_held a s = held_below a.entry circuit_count s

-- the channel that has entry i in the order of spans, and of channels within a span
abbrev pub channel_of : Counts → ℕ → Step
channel_of n i = step (i / n.channels) (i % n.channels)

-- all channels of the network, and how many of them are held
abbrev pub channels : Counts → List Step
channels n = map (channel_of n) (range_with_len 0 (span_entries n))

abbrev pub held_by : Counts → Account → ℕ
held_by n a = count_by (is_held a) (channels n)

-- a network with what can be used of it by the account: what a span carries, where the span is open and the channel not held
abbrev pub fare_by : Net → Account → Step → Option ℕ
fare_by w a s = cond (a.is_open s.span && not (is_held a s)) (tariff_of w s.span s.channel) None

abbrev pub scene_by : Net → Account → Scene
scene_by w a = scene w (fare_by w a)
