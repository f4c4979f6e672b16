-- What contracts see of a host's engine, and how it stands to the steps of its caller.
use Rattle.std.specs.Prelude.{◌≡◌, ◌<◌, ◌+◌, ◌-◌, ◌^◌, min, ⊤, ℕ, Bool, false, All, List, [], ◌∷◌, ◌++◌, map, drop, Option, Some, None}
use Rattle.std.specs.Io.KnownBytes.{Appends}
use Rattle.resp_core.specs.Tree.{Tree}
use Rattle.resp_core.specs.Value.{tree_of}
use Rattle.resp_core.specs.declared.value.Value.{Value}
use Rattle.limits.specs.declared.messages.TheConstants.{MAX_HOST_MEMBERS}
use Rattle.splitter.specs.Request.{Request, read}
use Rattle.proxy_history.specs.History.{History, Step, times, is_fault, epoch}
use Rattle.proxy_history.specs.Replies.{replies_from}
use Rattle.proxy_history.specs.Output.{upstream}
use Rattle.proxy_history.specs.OwnSteps.{host_steps}
use Rattle.proxy_history.specs.declared.event.Event.{Event}
use Rattle.proxy_history.specs.declared.event.Kind.{Kind}
use Rattle.proxy_history.specs.declared.answer.Answer.{Answer}
use Rattle.proxy_devices.specs.Device.{Counts}
use Rattle.proxy_engines.specs.Moves.{AsTold, has_moved, IsEndOf, last_text, text_sent}
use Rattle.proxy_engines.specs.Ends.{InboxState, Holds, Reads, refusal_requests}
use Rattle.journal_core.specs.Journal.{step_by}

-- The engine without its link: its host, after how many milliseconds a reply is late, the epoch, the text that is pending, and
-- when each part without reply was taken, the oldest first. It is astray once a part was of another epoch than its own:
-- someone else failed its host.
pub record HostOutboxState : Type 0 where
  pub host : ℕ
  pub reply_ms : ℕ
  pub epoch : ℕ
  pub pending : List ℕ
  pub moments : List ℕ
  pub is_astray : Bool

-- a link: what is read, the writer's contents, where they are known, its log and its counts, and a value whose turn was not
-- answered
pub record LinkState : Type 0 where
  pub inbox : InboxState
  pub held : Option (List ℕ)
  pub taken : List ℕ
  pub counts : Counts
  pub next : Option Value

-- what a host's engine sends, and its link, if there is one
pub record HostEnds : Type 0 where
  pub outbox : HostOutboxState
  pub link : Option LinkState

-- an outbox, with a link
abbrev pub on_link : HostOutboxState → LinkState → HostEnds
on_link outbox link = record { outbox = outbox; link = Some link }

-- Moves of a host's engine at one moment: its ends before and after them, and its caller's steps before and after them.
pub record HostMove : Type 0 where
  pub old : HostEnds
  pub new : HostEnds
  pub before : History
  pub after : History
  pub moment : ℕ

-- what waits for its turn, as a list
abbrev pub waiting_requests : Option Value → List Request
waiting_requests None = []
waiting_requests (Some v) = read (tree_of v) ∷ []

-- The link was given these bytes: their values are those that came, the one that waits for its turn, and a refused byte.
pub record HoldsLink (link : LinkState) (came : List Tree) (bytes : List ℕ) : Type 0 where
  pub given : List Request
  pub holds : Holds link.inbox bytes given
  pub most_is : link.inbox.values.most ≡ MAX_HOST_MEMBERS
  pub given_are : given ≡ map read came ++ (waiting_requests link.next ++ refusal_requests link.inbox.values.refusal)

-- what a link took, what it was given, and the values that came; without a link nothing
abbrev pub IsOnLink : Option LinkState → List Tree → List ℕ → List ℕ → Type 0
IsOnLink None came taken bytes = (came ≡ []) × (taken ≡ []) × (bytes ≡ [])
IsOnLink (Some link) came taken bytes = HoldsLink link came bytes

-- What the link's writer took and what is pending is what was sent to the host in its epoch, and the values that came are the
-- first of what the link's bytes hold. The writer of the present link took the bytes `taken`, its reader gave the bytes `given`,
-- and the engine's caller made these steps. Nothing was sent or came in a later epoch.
pub record CarriesHost (outbox : HostOutboxState) (link : Option LinkState) (steps : History) (taken given : List ℕ) : Type 0 where
  pub out_is : taken ++ outbox.pending ≡ upstream outbox.host outbox.epoch steps
  pub link_is : IsOnLink link (replies_from outbox.host outbox.epoch steps) taken given
  pub epoch_is : outbox.epoch ≡ epoch outbox.host steps
  pub none_sent : outbox.is_astray ≡ false → (later : ℕ) → outbox.epoch < later → upstream outbox.host later steps ≡ []
  pub none_came : (later : ℕ) → outbox.epoch < later → replies_from outbox.host later steps ≡ []

-- the moments of the parts without reply, after a step at this moment, and after several, the newest first
abbrev pub moments_by : ℕ → Event → List ℕ → List ℕ
moments_by m (Event.Taken h) ms = ms ++ m ∷ []
moments_by m (Event.Answered h e v t) ms = drop 1 ms
moments_by m event ms = ms

-- when each part without reply was taken, behind some steps at a moment
abbrev pub moments_after : ℕ → History → List ℕ → List ℕ
moments_after m [] ms = ms
moments_after m (s ∷ before) ms = moments_by m s.event (moments_after m before ms)

-- the oldest parts without reply got one, or none did, and nothing was taken
abbrev pub GetsReplies : HostOutboxState → HostOutboxState → Type 0
GetsReplies old new = (n : ℕ) × (new ≡ record old { moments = drop n old.moments })

-- the bytes that a link read, and those that it wrote
abbrev pub ReadsOn : Option LinkState → Option LinkState → List ℕ → Type 0
ReadsOn None None got = got ≡ []
ReadsOn (Some k) (Some k') got = Reads k.inbox k'.inbox got
ReadsOn k k' got = ⊥

-- the writer of a link took these bytes: they are the last of its contents, where those are known, and of its log
pub record WritesLink (old new : LinkState) (gave : List ℕ) : Type 0 where
  pub held : Appends old.held new.held gave
  pub taken : new.taken ≡ old.taken ++ gave

-- the link's writer took these bytes more; without a link none
abbrev pub WritesOn : Option LinkState → Option LinkState → List ℕ → Type 0
WritesOn None None gave = gave ≡ []
WritesOn (Some k) (Some k') gave = WritesLink k k' gave
WritesOn k k' gave = ⊥

-- where the event is a reply, it came at this moment
abbrev pub IsReplyAt : ℕ → Event → Type 0
IsReplyAt m (Event.Answered h e v t) = t ≡ m
IsReplyAt m event = ⊤

-- Some moves at one moment, on one link or without one: bytes that were read, bytes that were taken, steps of its host alone
-- that are no faults, each reply at that moment, whether any of these came, and what is carried. Of one text at most bytes are
-- pending: of the last that was sent, or of the one of which bytes were pending before.
pub record GoesOn (move : HostMove) (moved : Bool) : Type 0 where
  pub got : List ℕ
  pub gave : List ℕ
  pub steps : History
  pub adds : move.after ≡ steps ++ move.before
  pub moved_is : moved ≡ has_moved got gave steps
  pub alone : host_steps move.old.outbox.host steps ≡ steps
  pub no_faults : times (is_fault move.old.outbox.host) steps ≡ 0
  pub host : move.new.outbox.host ≡ move.old.outbox.host
  pub reply_ms : move.new.outbox.reply_ms ≡ move.old.outbox.reply_ms
  pub epoch : move.new.outbox.epoch ≡ move.old.outbox.epoch
  pub moments : move.new.outbox.moments ≡ moments_after move.moment steps move.old.outbox.moments
  pub replies_at : All (λ (s : Step). IsReplyAt move.moment s.event) steps
  pub reads : ReadsOn move.old.link move.new.link got
  pub writes : WritesOn move.old.link move.new.link gave
  pub one_text : IsEndOf move.new.outbox.pending (last_text text_sent move.old.outbox.pending steps)
  pub carries : (taken given : List ℕ) → CarriesHost move.old.outbox move.old.link move.before taken given
      → CarriesHost move.new.outbox move.new.link move.after (taken ++ gave) (given ++ got)

-- moves between these ends without a turn, whatever steps were made before and at whatever moment
abbrev pub GoesWithoutTurn : HostEnds → HostEnds → Option Bool → Type 0
GoesWithoutTurn old new told = (steps : History) (moment : ℕ)
    → AsTold (GoesOn (record { old = old; new = new; before = steps; after = steps; moment = moment })) told

-- the engine after a fault: what was pending is dropped
abbrev pub next_link : HostOutboxState → HostOutboxState
next_link outbox = record outbox { epoch = min (outbox.epoch + 1) (2 ^ 64 - 1); pending = []; moments = [] }

-- One fault of this kind was recorded. The link is given up, and the next one begins with nothing.
pub record FailsHost (move : HostMove) (kind : Kind) : Type 0 where
  pub pass : ℕ
  pub answer : Answer
  pub adds : move.after ≡ step_by pass (Event.Failed move.old.outbox.host move.old.outbox.epoch kind move.moment) answer ∷ move.before
  pub outbox : move.new.outbox ≡ next_link move.old.outbox
  pub link : move.new.link ≡ None
  pub carries : (taken given : List ℕ) → CarriesHost move.old.outbox move.old.link move.before taken given
      → CarriesHost move.new.outbox None move.after [] []
