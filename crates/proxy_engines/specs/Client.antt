-- What contracts see of a client's engine, and how it stands to the steps of its caller.
use Rattle.std.specs.Prelude.{◌≡◌, ◌≢◌, ⊤, ◌⊎◌, ℕ, Bool, true, false, List, [], ◌∷◌, ◌++◌, Option, Some, None, map, Result, Ok, IsErrAnd}
use Rattle.std.specs.List.{list_any}
use Rattle.std.specs.Io.KnownBytes.{IsAtEnd}
use Rattle.resp_core.specs.declared.error.RespError.{RespError}
use Rattle.limits.specs.declared.messages.TheConstants.{MAX_CLIENT_MEMBERS}
use Rattle.splitter.specs.Request.{Request, request_of}
use Rattle.splitter.specs.Requests.{finishes}
use Rattle.splitter.specs.declared.request.Request.{Request as Request'}
use Rattle.close_behind.specs.CloseBehind.{Behind, NoneCloses, closes_behind}
use Rattle.proxy_history.specs.History.{History, Step, accepted_count, handed_count, requests, is_closed, is_finishing}
use Rattle.proxy_history.specs.declared.event.Event.{Event}
use Rattle.proxy_history.specs.declared.refusal.Refusal.{Refusal}
use Rattle.proxy_history.specs.Output.{transcript}
use Rattle.proxy_history.specs.OwnSteps.{connection_steps}
use Rattle.proxy_engines.specs.Moves.{has_moved, IsEndOf, last_text, text_handed}
use Rattle.proxy_devices.specs.Device.{WasIdle}
use Rattle.proxy_engines.specs.Ends.{OutboxState, InboxState, HoldsBehind, HasGivenAll, AreRequests, KeepsReader, Reads, Writes}
use Rattle.proxy_engines.specs.OneTurn.{HasHeld}
use Rattle.proxy_engines.specs.declared.client.Progress.{Progress}
use Rattle.proxy_engines.specs.declared.client.Stage.{Stage}
use Rattle.engine_work.specs.EngineError.{IsTurnRefused}
use Rattle.engine_work.specs.declared.error.EngineError.{EngineError}

-- its connection, its two ends, the request that waits to be accepted, how many commands were accepted and how many replies
-- handed out, how far the connection has come, whether nothing more is to be taken in, and whether reading stopped for that or
-- behind a refused command; and behind which refused commands it does, and whether it has
pub record Client : Type 0 where
  pub conn : ℕ
  pub inbox : InboxState
  pub outbox : OutboxState
  pub next : Option Request'
  pub accepted : ℕ
  pub handed : ℕ
  pub stage : Stage
  pub is_drained : Bool
  pub is_halted : Bool
  pub behind : Behind
  pub is_closing : Bool

-- while requests are taken, its reader has refused nothing but what waits
abbrev pub IsWhole : Stage → Option Request' → Option RespError → Type 0
IsWhole Stage.Open None refusal = refusal ≡ None
IsWhole Stage.Open (Some (Request'.Read v)) refusal = refusal ≡ None
IsWhole Stage.Open (Some (Request'.Spelled words)) refusal = refusal ≡ None
IsWhole stage next refusal = ⊤

-- where reading stopped for a drain, no request is taken any more, and the reader has refused nothing
abbrev pub IsHaltedWhole : Bool → Stage → Option RespError → Type 0
IsHaltedWhole halted stage refusal = halted ≡ true → (stage ≢ Stage.Open) × (refusal ≡ None)

-- the connection is neither closed nor to be closed for a fault
abbrev pub IsLive : Stage → Type 0
IsLive Stage.Open = ⊤
IsLive Stage.AtEnd = ⊤
IsLive Stage.Finishing = ⊤
IsLive stage = ⊥

-- what waits, as a list
abbrev pub waiting_requests : Option Request' → List Request
waiting_requests None = []
waiting_requests (Some r) = request_of r ∷ []

-- what the connection has asked and was accepted
abbrev pub asked_requests : ℕ → History → List Request
asked_requests conn steps = map request_of (requests conn steps)

-- no request of these finishes the connection
abbrev pub NoneFinishes : List Request → Type 0
NoneFinishes rs = list_any finishes rs ≡ false

-- the last of these requests finishes the connection, and no other does
pub record LastFinishes (rs : List Request) : Type 0 where
  pub front : List Request
  pub last : Request
  pub are : rs ≡ front ++ last ∷ []
  pub goes_on : NoneFinishes front
  pub finishes : finishes last ≡ true

-- the last of these requests closes the connection, and no other does
pub record LastCloses (behind : Behind) (rs : List Request) : Type 0 where
  pub front : List Request
  pub last : Request
  pub are : rs ≡ front ++ last ∷ []
  pub goes_on : NoneCloses behind front
  pub closes : closes_behind behind last ≡ true

-- of these requests the last alone closes the connection where that is so, and else none does
abbrev pub ClosesAt : Bool → Behind → List Request → Type 0
ClosesAt false behind rs = NoneCloses behind rs
ClosesAt true behind rs = LastCloses behind rs

-- what a connection has taken in: the requests that it asked, whether reading was halted, what was read and which request of
-- it waits, the bytes that the reader gave, and the requests given of them
pub record Intake : Type 0 where
  pub asked : List Request
  pub is_halted : Bool
  pub inbox : InboxState
  pub next : Option Request'
  pub bytes : List ℕ
  pub given : List Request

-- what a client's engine has taken in, by the steps of its caller, of these bytes and requests
abbrev pub intake_of : Client → History → List ℕ → List Request → Intake
intake_of engine steps bytes given = record {
  asked = asked_requests engine.conn steps;
  is_halted = engine.is_halted;
  inbox = engine.inbox;
  next = engine.next;
  bytes = bytes;
  given = given;
}

-- the bytes read are all that will be: reading was halted for a drain, or the input has ended
abbrev pub IsOver : Bool → InboxState → Type 0
IsOver halted inbox = (halted ≡ true) ⊎ IsAtEnd inbox.left

-- No byte is read any more; and unless reading was halted all requests of those that were read were given, and none waits.
pub record IsAllRead (intake : Intake) : Type 0 where
  pub end : IsOver intake.is_halted intake.inbox
  pub all : intake.is_halted ≡ false → AreRequests intake.inbox.values.most intake.bytes intake.given
  pub none_waits : intake.is_halted ≡ false → intake.next ≡ None

-- nothing more arrives: no byte is read any more, or a request finishes the connection
abbrev pub IsFinished : Intake → Type 0
IsFinished intake = (NoneFinishes intake.asked × IsAllRead intake) ⊎ LastFinishes intake.asked

-- what holds at each stage of what was taken in; at the end the connection is done
abbrev pub IsAtStage : Stage → Type 0 → Intake → Type 0
IsAtStage Stage.Open done intake = NoneFinishes intake.asked
IsAtStage Stage.AtEnd done intake = NoneFinishes intake.asked × IsAllRead intake
IsAtStage Stage.Finishing done intake = IsFinished intake
IsAtStage Stage.Failed done intake = ⊤
IsAtStage (Stage.Closed true) done intake = ⊤
IsAtStage (Stage.Closed false) done intake = IsFinished intake × done

-- neither the reader nor the writer has failed
abbrev pub HasNoFault : Client → Client → Type 0
HasNoFault old new = (new.inbox.counts.failed ≡ old.inbox.counts.failed) × (new.outbox.counts.failed ≡ old.outbox.counts.failed)

-- both ends tell of as many faults and pauses as before
abbrev pub HasSameCounts : Client → Client → Type 0
HasSameCounts old new = (new.inbox.counts ≡ old.inbox.counts) × (new.outbox.counts ≡ old.outbox.counts)

-- Whether a request waits, as was answered; where none does, all requests that came were given.
pub record HasNext (engine : Client) (is_there : Bool) : Type 0 where
  pub some : is_there ≡ true → engine.next ≢ None
  pub none : is_there ≡ false → (engine.next ≡ None) × HasGivenAll engine.inbox

-- nothing more is accepted: the engine is drained, or it has stopped reading
abbrev pub TakesNothing : Client → Type 0
TakesNothing engine = (engine.stage ≢ Stage.Open) ⊎ (engine.is_drained ≡ true)

-- No byte is to be read any more, and no refused byte waits to be told: the engine is drained, or the input has ended with all given.
pub record IsReadOut (engine : Client) : Type 0 where
  pub unbroken : engine.next ≢ Some Request'.Broken
  pub none : engine.is_drained ≡ false → engine.next ≡ None
  pub all : engine.is_drained ≡ false → HasGivenAll engine.inbox
  pub over : IsOver engine.is_drained engine.inbox

-- whether the connection finishes and whether it was closed, by its stage: it is closed at its end and for a fault, and not
-- before; and it finishes before it is closed at its end
abbrev pub IsToldAt : Stage → Bool → Bool → Type 0
IsToldAt Stage.Open finishing closed = closed ≡ false
IsToldAt Stage.AtEnd finishing closed = closed ≡ false
IsToldAt Stage.Finishing finishing closed = (finishing ≡ true) × (closed ≡ false)
IsToldAt Stage.Failed finishing closed = ⊤
IsToldAt (Stage.Closed cut) finishing closed = closed ≡ true

-- all that was accepted was handed out and written, and the connection was closed
pub record IsDone (engine : Client) (steps : History) : Type 0 where
  pub all_written : engine.outbox.pending ≡ []
  pub all_handed : engine.accepted ≡ engine.handed
  pub closed : is_closed engine.conn steps ≡ true

-- reading stopped for a drain, or behind a refused command: what waits is a value, if anything does, and none that was accepted
-- finishes the connection
pub record IsHalted (engine : Client) (steps : History) : Type 0 where
  pub drained : (engine.is_drained ≡ true) ⊎ (engine.is_closing ≡ true)
  pub stage : engine.stage ≢ Stage.Open
  pub unbroken : engine.next ≢ Some Request'.Broken
  pub goes_on : NoneFinishes (asked_requests engine.conn steps)

-- closed after a drain, with all answered and written, and neither had its input ended nor did a request finish or close it
abbrev pub MayGoOn : Client → Type 0
MayGoOn engine = (engine.stage ≡ Stage.Closed false) × (engine.is_halted ≡ true) × (engine.is_closing ≡ false)

-- What the client's writer took and what is pending is what was handed out; the requests accepted, and the one that waits, are
-- those that were given; and the connection finishes and was closed as its stage says. Where reading stopped behind a refused
-- command, the last request accepted closes the connection, as no other does. The writer took the bytes `taken`, the reader gave
-- `bytes`, and the engine's caller made these steps.
pub record Carries (engine : Client) (steps : History) (taken bytes : List ℕ) : Type 0 where
  pub given : List Request
  pub out_is : taken ++ engine.outbox.pending ≡ transcript engine.conn steps
  pub holds : HoldsBehind engine.inbox bytes given
  pub most_is : engine.inbox.values.most ≡ MAX_CLIENT_MEMBERS
  pub given_are : given ≡ asked_requests engine.conn steps ++ waiting_requests engine.next
  pub accepted_is : engine.accepted ≡ accepted_count engine.conn steps
  pub handed_is : engine.handed ≡ handed_count engine.conn steps
  pub stage_is : IsAtStage engine.stage (IsDone engine steps) (intake_of engine steps bytes given)
  pub halted_is : engine.is_halted ≡ true → IsHalted engine steps
  pub closes_is : ClosesAt engine.is_closing engine.behind (asked_requests engine.conn steps)
  pub closing_is : engine.is_closing ≡ true → engine.is_halted ≡ true
  pub told_is : IsToldAt engine.stage (is_finishing engine.conn steps) (is_closed engine.conn steps)

-- Nothing can be handed out: all that was accepted has been, or the next reply hasn't come.
abbrev pub HandsNothing : (Refusal → Event → List Step → Type 0) → Client → List Step → List Step → Type 0
HandsNothing cause engine seen_before seen_after =
    (engine.accepted ≡ engine.handed)
    ⊎ ((left : ℕ) × HasHeld (cause (Refusal.NotReady left)) (Event.Handed engine.conn) seen_before seen_after)

-- The next request is held back: too many commands are unwritten.
abbrev pub IsHeldBack : (Refusal → Event → List Step → Type 0) → Client → List Step → List Step → Type 0
IsHeldBack cause engine seen_before seen_after = (request : Request') × (engine.next ≡ Some request)
    × HasHeld (cause Refusal.Crowded) (Event.Arrived engine.conn request) seen_before seen_after

-- Nothing more arrives, and a reply hasn't come.
abbrev pub AwaitsReplies : Client → Type 0
AwaitsReplies engine = (engine.stage ≡ Stage.Finishing) × (engine.accepted ≢ engine.handed)

-- All requests that came are accepted, and nothing can be read.
abbrev pub AwaitsBytes : Client → Client → Type 0
AwaitsBytes old new = (new.next ≡ None) × HasGivenAll new.inbox × WasIdle old.inbox.counts new.inbox.counts

-- Why nothing moved: nothing can be written; or nothing is to be written, nothing can be handed out, and nothing can be
-- accepted.
abbrev pub IsIdle : (Refusal → Event → List Step → Type 0) → Client → Client → List Step → List Step → Type 0
IsIdle cause old new seen_before seen_after =
    WasIdle old.outbox.counts new.outbox.counts
    ⊎ ((old.outbox.pending ≡ []) × HandsNothing cause old seen_before seen_after
    × (IsHeldBack cause new seen_before seen_after ⊎ (AwaitsReplies new ⊎ AwaitsBytes old new)))

-- Nothing was read: no bytes came, and the reader is as it was.
pub record IsUnread (old new : InboxState) (got : List ℕ) : Type 0 where
  pub none : got ≡ []
  pub kept : KeepsReader old new

-- Nothing was taken in: no request was accepted, and what waited still waits.
pub record IsUntaken (old new : Client) : Type 0 where
  pub accepted : new.accepted ≡ old.accepted
  pub next : new.next ≡ old.next

-- Some moves of an engine: bytes that were read, bytes that were taken, steps of its connection alone, whether any of these
-- came, and what it carries. Where it drains nothing was read, and nothing taken in but the refusal of a byte. Of one text at
-- most bytes are pending: of the last that was handed out, or of the one of which bytes were pending before.
pub record Goes (old new : Client) (before after : History) (moved : Bool) : Type 0 where
  pub got : List ℕ
  pub gave : List ℕ
  pub steps : History
  pub reads : Reads old.inbox new.inbox got
  pub writes : Writes old.outbox new.outbox gave
  pub conn : new.conn ≡ old.conn
  pub drained : new.is_drained ≡ old.is_drained
  pub behind : new.behind ≡ old.behind
  pub unread : old.is_drained ≡ true → IsUnread old.inbox new.inbox got
  pub untaken : old.is_drained ≡ true → old.next ≢ Some Request'.Broken → IsUntaken old new
  pub adds : after ≡ steps ++ before
  pub moved_is : moved ≡ has_moved got gave steps
  pub alone : connection_steps old.conn steps ≡ steps
  pub one_text : IsEndOf new.outbox.pending (last_text text_handed old.outbox.pending steps)
  pub carries : (taken bytes : List ℕ) → Carries old before taken bytes → Carries new after (taken ++ gave) (bytes ++ got)

-- The connection was closed for a fault, and the answer is as was said; or the turn was refused, and it is to be closed.
abbrev pub Cuts : Client → Client → History → History → Result Progress EngineError → Result Progress EngineError → Type 0
Cuts old new before after answer result =
    (Goes old new before after true × (new ≡ record old { stage = Stage.Closed true }) × (result ≡ answer))
    ⊎ (Goes old new before after false × (new ≡ record old { stage = Stage.Failed })
    × IsErrAnd result IsTurnRefused)

-- What a step comes to where the connection was closed, and where it is to be closed for a fault: nothing more, or that close.
abbrev pub ClosesFirst : Stage → Client → Client → History → History → Result Progress EngineError → Type 0
ClosesFirst (Stage.Closed true) old new before after result = (new ≡ old) × (after ≡ before) × (result ≡ Ok Progress.Cut)
ClosesFirst (Stage.Closed false) old new before after result = (new ≡ old) × (after ≡ before) × (result ≡ Ok Progress.Ended)
ClosesFirst Stage.Failed old new before after result = Cuts old new before after (Ok Progress.Cut) result
ClosesFirst stage old new before after result = ⊤
