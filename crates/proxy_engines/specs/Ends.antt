-- What contracts see of the two ends of an engine: what it has read and not yet asked, and what it has yet to write.
use Rattle.std.specs.Prelude.{◌≡◌, ◌≢◌, ◌<◌, ◌⊎◌, ℕ, Bool, List, [], ◌∷◌, ◌++◌, Option, Some, None, length, map, IfSome, IfNone}
use Rattle.std.specs.Io.KnownBytes.{Appends, Consumes, IsAtEnd}
use Rattle.resp_core.specs.Tree.{Tree}
use Rattle.resp_core.specs.Laws as resp
use Rattle.resp_core.specs.ReaderState.{ReaderState, Stands}
use Rattle.resp_core.specs.Stream.{HasNoRefusal, Splits}
use Rattle.resp_core.specs.declared.error.RespError.{RespError}
use Rattle.limits.specs.declared.messages.TheConstants.{MAX_CLIENT_MEMBERS}
use Rattle.splitter.specs.Request.{Request, read, broken, request_of}
use Rattle.splitter.specs.declared.request.Request.{Request as Request'}
use Rattle.splitter.specs.Requests.{end_of}
use Rattle.close_behind.specs.CloseBehind.{Behind}
use Rattle.proxy_devices.specs.Device.{Counts, HasFailed, Passed, WasIdle, is_moved}
use Rattle.proxy_devices.specs.declared.tally.IoOutcome.{IoOutcome}
use Rattle.proxy_engines.specs.Moves.{has_moved}

-- a writer's contents, where they are known, its log, which is all that it took, what of it has passed to what is behind the writer,
-- its counts, and what is to be written next
pub record OutboxState : Type 0 where
  pub held : Option (List ℕ)
  pub taken : List ℕ
  pub passed : Passed
  pub counts : Counts
  pub pending : List ℕ

-- the writer took these bytes: they are the last of its contents, where those are known, and of its log
pub record Writes (old new : OutboxState) (gave : List ℕ) : Type 0 where
  pub held : Appends old.held new.held gave
  pub taken : new.taken ≡ old.taken ++ gave

-- the writer took these bytes from the front of what was to be written
pub record Sends (old new : OutboxState) (gave : List ℕ) : Type 0 where
  pub writes : Writes old new gave
  pub pending : old.pending ≡ gave ++ new.pending

-- what one write has counted, by what it told: a fault where it took nothing or failed, and a pause where it was idle
pub record CountsWritten (old new : Counts) (told : IoOutcome) : Type 0 where
  pub moved : (n : ℕ) → told ≡ IoOutcome.Moved n → new ≡ old
  pub failed : (told ≡ IoOutcome.End) ⊎ (told ≡ IoOutcome.Failed) → HasFailed old new
  pub idle : told ≡ IoOutcome.Idle → WasIdle old new

-- One write, by what it told: the writer took bytes from the front of what was to be written, or none. Where it took bytes fewer
-- are left.
pub record WritesOnce (old new : OutboxState) (told : IoOutcome) : Type 0 where
  pub bytes : (gave : List ℕ) × Sends old new gave × (is_moved told ≡ has_moved [] gave [])
  pub fewer : (n : ℕ) → told ≡ IoOutcome.Moved n → length new.pending < length old.pending
  pub counts : CountsWritten old.counts new.counts told

-- what a reader has left, where it is known, its log, which is all that it told, its counts, the bytes that came last, and the
-- reader of values
pub record InboxState : Type 0 where
  pub left : Option (List ℕ)
  pub told : List ℕ
  pub counts : Counts
  pub fresh : List ℕ
  pub values : ReaderState

-- the reader told these bytes: they are the next of what it had left, where that is known, and the last of its log
pub record Reads (old new : InboxState) (got : List ℕ) : Type 0 where
  pub left : Consumes old.left new.left got
  pub told : new.told ≡ old.told ++ got

-- the reader is as it was: it has left what it had, and its log and its counts are the same
abbrev pub KeepsReader : InboxState → InboxState → Type 0
KeepsReader old new = (new.left ≡ old.left) × (new.told ≡ old.told) × (new.counts ≡ old.counts)

-- One read, by what it told: bytes came, the input ended, none came for now, or the reader failed. What came is not looked at
-- yet.
pub record ReadsOnce (old new : InboxState) (told : IoOutcome) : Type 0 where
  pub bytes : Reads old new new.fresh
  pub values : new.values ≡ old.values
  pub is_told : is_moved told ≡ has_moved new.fresh [] []
  pub moved : (n : ℕ) → told ≡ IoOutcome.Moved n → (new.fresh ≢ []) × (new.counts ≡ old.counts)
  pub end : told ≡ IoOutcome.End → (new.fresh ≡ []) × IsAtEnd new.left × (new.counts ≡ old.counts)
  pub idle : told ≡ IoOutcome.Idle → (new.fresh ≡ []) × WasIdle old.counts new.counts
  pub failed : told ≡ IoOutcome.Failed → (new.fresh ≡ []) × HasFailed old.counts new.counts

-- a refusal of the reader of values is a request too
abbrev pub refusal_requests : Option RespError → List Request
refusal_requests None = []
refusal_requests (Some e) = broken ∷ []

-- The end was given the bytes that came, and has given these requests.
pub record Holds (inbox : InboxState) (came : List ℕ) (asked : List Request) : Type 0 where
  pub fed : List ℕ
  pub given : List Tree
  pub bytes : came ≡ fed ++ inbox.fresh
  pub stands : Stands inbox.values fed given
  pub requests : asked ≡ map read given ++ refusal_requests inbox.values.refusal
  pub after : IfSome inbox.values.refusal (λ _. inbox.fresh ≡ [])

-- The end was given the bytes that came. The first of them are the texts of values that were given before, and it was given the others
-- itself; and all these requests were given.
pub record HoldsBehind (inbox : InboxState) (came : List ℕ) (asked : List Request) : Type 0 where
  pub first : List Tree
  pub own : List ℕ
  pub splits : Splits MAX_CLIENT_MEMBERS came first own
  pub given : List Request
  pub holds : Holds inbox own given
  pub requests : asked ≡ map read first ++ given

-- what was read and not asked: the request that waits, the bytes that came last, and the reader of values; and behind which
-- refused commands the connection is closed
pub record RestState : Type 0 where
  pub next : Option Request'
  pub behind : Behind
  pub fresh : List ℕ
  pub values : ReaderState

-- the end with these, behind a reader of which the others are told
abbrev pub end_with : Option (List ℕ) → List ℕ → Counts → RestState → InboxState
end_with left told counts rest = record { left = left; told = told; counts = counts; fresh = rest.fresh; values = rest.values }

-- Where the bytes that came made these requests, they are the texts of those, and then others. Behind whatever reader, an end with this
-- rest was given these others alone.
pub record IsCut (most : ℕ) (came : List ℕ) (made : List Request) (kept : RestState) : Type 0 where
  pub asked : List Tree
  pub rest : List ℕ
  pub requests : made ≡ map read asked
  pub splits : Splits most came asked rest
  pub holds : (left : Option (List ℕ)) (told : List ℕ) (counts : Counts) → Holds (end_with left told counts kept) rest []

-- these are the requests of bytes whose arrays may have so many members: their values in order, and then a broken one where
-- a byte behind them is refused
abbrev pub AreRequests : ℕ → List ℕ → List Request → Type 0
AreRequests most came asked = (values : List Tree) × (is_refused : Bool) × resp.Holds most came values is_refused
    × (asked ≡ map read values ++ end_of is_refused)

-- The reader of values has given all values of the bytes that it was fed, and refused none of them.
pub record HasNothingToGive (reader : ReaderState) : Type 0 where
  pub none_refused : reader.refusal ≡ None
  pub all : (x : List ℕ) (ts : List Tree) → Stands reader x ts → HasNoRefusal reader.most x ts

-- The end has given all requests that came, and no byte behind them is refused.
pub record HasGivenAll (inbox : InboxState) : Type 0 where
  pub none_fresh : inbox.fresh ≡ []
  pub none_refused : inbox.values.refusal ≡ None
  pub all : (came : List ℕ) (asked : List Request) → Holds inbox came asked → AreRequests inbox.values.most came asked

-- What an end gave next, from one state of it to the next: a request more, or nothing, and then it has given all that came. Its
-- reader of values has refused a byte exactly where that was told.
pub record GivesNext (old new : InboxState) (next : Option Request') : Type 0 where
  pub some : IfSome next (λ request. (came : List ℕ) (asked : List Request) → Holds old came asked
      → Holds new came (asked ++ request_of request ∷ []))
  pub none : IfNone next ((came : List ℕ) (asked : List Request) → Holds old came asked → Holds new came asked)
  pub all : IfNone next (HasGivenAll new)
  pub whole : next ≢ Some Request'.Broken → new.values.refusal ≡ None
  pub told : next ≡ Some Request'.Broken → new.values.refusal ≢ None
