-- What each refusal says of the history.
use Rattle.std.specs.Prelude.{◌≡◌, ◌≢◌, ◌⊎◌, ◌+◌, ◌<◌, ◌≤◌, ℕ, true, false, [], length}
use Rattle.resp_core.specs.Tree.{is_plain_tree}
use Rattle.resp_core.specs.Value.{tree_of}
use Rattle.proxy_history.specs.Setting.{Setting, hosts, max_connections, max_unwritten, max_steps, max_payload}
use Rattle.proxy_history.specs.History.{History, times, openings, accepted_count, handed_count, epoch, is_any_closing, is_closed, is_open, is_finishing}
use Rattle.proxy_history.specs.Past.{past}
use Rattle.proxy_history.specs.Waiting.{waiting_parts, flying_count}
use Rattle.proxy_history.specs.Answer.{answer_to}
use Rattle.proxy_history.specs.Payload.{payload, payload_of}
use Rattle.proxy_history.specs.Legal.{Fits, IsCause}
use Rattle.proxy_history.specs.CauseLaws.{HasNothingReady}
use Rattle.proxy_history.specs.declared.event.Event.{Event}
use Rattle.proxy_history.specs.declared.event.Event.TheVariants.{Opened, Arrived, Finished, Taken, Answered, Failed, Handed, Closed}
use Rattle.proxy_history.specs.declared.refusal.Refusal.{Refusal}
use Rattle.proxy_history.specs.declared.refusal.Refusal.TheVariants as refusal

-- the connection was never opened, or it is closed
abbrev pub IsNotOpen : ℕ → History → Type 0
IsNotOpen c H = (openings H ≤ c) ⊎ (is_closed c H ≡ true)

-- The connection is open, and the end of its input or a request that finishes it stands in the history.
pub record HasFinished (c : ℕ) (H : History) : Type 0 where
  pub opened : is_open c H ≡ true
  pub finished : is_finishing c H ≡ true

-- The host has another epoch than the one named, and this is it.
pub record IsStale (h e current : ℕ) (H : History) : Type 0 where
  pub current_is : current ≡ epoch h H
  pub differs : e ≢ current

-- What a refusal of an event says. An event has no refusals but these.
abbrev pub Means : Setting → History → Event → Refusal → Type 0
Means S H event refusal.NoMemory = Fits S H event
Means S H event refusal.JournalFull =
    (max_steps ≤ length H)
    ⊎ (max_payload < payload H + payload_of event (answer_to S (past S H) event))
Means S H Opened refusal.TooManyConnections =
    times is_any_closing H + max_connections ≤ openings H
Means S H (Arrived c request) refusal.NoSuchConnection = IsNotOpen c H
Means S H (Arrived c request) refusal.Finishing = HasFinished c H
Means S H (Arrived c request) refusal.Crowded = handed_count c H + max_unwritten ≤ accepted_count c H
Means S H (Finished c) refusal.NoSuchConnection = IsNotOpen c H
Means S H (Finished c) refusal.Finishing = HasFinished c H
Means S H (Taken h) refusal.NoSuchHost = hosts S ≤ h
Means S H (Taken h) refusal.NothingWaiting = waiting_parts h (past S H) ≡ []
Means S H (Answered h e value t) refusal.NoSuchHost = hosts S ≤ h
Means S H (Answered h e value t) refusal.NotPlain = is_plain_tree (tree_of value) ≡ false
Means S H (Answered h e value t) (refusal.Stale current) = IsStale h e current H
Means S H (Answered h e value t) refusal.Unasked =
    (e ≡ epoch h H) × (flying_count h (past S H) ≡ 0)
Means S H (Failed h e kind t) refusal.NoSuchHost = hosts S ≤ h
Means S H (Failed h e kind t) (refusal.Stale current) = IsStale h e current H
Means S H (Handed c) refusal.NoSuchConnection = IsNotOpen c H
Means S H (Handed c) (refusal.NotReady left) = HasNothingReady (past S H) c left
Means S H (Closed c) refusal.NoSuchConnection = IsNotOpen c H
Means S H _ _ = ⊥

-- a refusal that has its cause says this
abbrev pub RefusalsMean : Type 0
RefusalsMean = (S : Setting) (H : History) (event : Event) (r : Refusal)
    → IsCause S H event r → Means S H event r
