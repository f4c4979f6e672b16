-- What goes out by a writer with a buffer.
use Rattle.std.specs.Prelude.{◌≡◌, ◌≢◌, ◌⊎◌, ◌≤◌, ◌*◌, max, ◌==◌, ◌&&◌, ◌++◌, not, true, false, length, ℕ, Bool, List, [], Option, Result, IfOk, IfErr, IsErrAnd}
use Rattle.std.specs.Io.KnownBytes.{Appends}
use Rattle.std.specs.IoError.{error_kind}
use Rattle.std.specs.declared.io.Error.{Error}
use Rattle.std.specs.declared.io.ErrorKind.TheVariants.{BrokenPipe, WouldBlock}
use Rattle.limits.specs.declared.workers.TheConstants.{MAX_BUFFERED}
use Rattle.socket_halves.specs.Moved.{moved_bytes}

-- what a writer has, as far as it tells; all that it took since the buffer was made, the oldest first; the bytes that are
-- buffered for it, and how many are before some are written; whether it may take some, and whether a write failed
pub record WriteBufferState : Type 0 where
  pub held : Option (List ℕ)
  pub taken : List ℕ
  pub buffered : List ℕ
  pub bound : ℕ
  pub is_writable : Bool
  pub is_broken : Bool

-- over a writer that has these bytes and may take some, nothing is buffered
abbrev pub fresh_buffer : Option (List ℕ) → WriteBufferState
fresh_buffer held = record { held = held; taken = []; buffered = []; bound = MAX_BUFFERED; is_writable = true; is_broken = false }

-- all bytes that were accepted since the buffer was made: those that the writer took, and those that are buffered
abbrev pub accepted : WriteBufferState → List ℕ
accepted out = out.taken ++ out.buffered

-- whether there is something buffered that the writer may take, and no write failed
abbrev pub may_write : WriteBufferState → Bool
may_write out = out.is_writable && not out.is_broken && not (length out.buffered == 0)

-- These bytes go out behind what was buffered, and no other: what the writer took since and what is buffered now are what
-- was buffered before and these bytes. This holds of any writer; one that tells its bytes has grown by what it took.
pub record GoesOut (old new : WriteBufferState) (bytes : List ℕ) : Type 0 where
  pub gave : List ℕ
  pub taken : new.taken ≡ old.taken ++ gave
  pub held : Appends old.held new.held gave
  pub left : gave ++ new.buffered ≡ old.buffered ++ bytes

-- what goes out is what was accepted, and nothing else is
abbrev pub AcceptedGoesOut : Type 0
AcceptedGoesOut = (old new : WriteBufferState) (bytes : List ℕ) → GoesOut old new bytes → accepted new ≡ accepted old ++ bytes

-- a writer that may take some may take more, unless a write failed or something is left that it didn't take
abbrev pub StaysWritable : WriteBufferState → WriteBufferState → Type 0
StaysWritable old new = old.is_writable ≡ true → new.is_broken ≡ false → new.buffered ≡ [] → new.is_writable ≡ true

-- what was buffered goes out, as far as the writer takes it
pub record WritesOut (old new : WriteBufferState) : Type 0 where
  pub goes_out : GoesOut old new []
  pub bound_is : new.bound ≡ old.bound
  -- nothing is left that may be written
  pub ends : may_write new ≡ false
  pub whole : StaysWritable old new
  -- after a failed write nothing changes
  pub broken : old.is_broken ≡ true → new ≡ old

-- as many of these bytes go out as the answer says, which says why where none of some do
pub record Accepts (old new : WriteBufferState) (bytes : List ℕ) (result : Result ℕ Error) : Type 0 where
  pub goes_out : GoesOut old new (moved_bytes result bytes)
  pub paused : IfErr result (λ e. error_kind e ≡ WouldBlock → new.is_writable ≡ false)
  pub failed : IfErr result (λ e. error_kind e ≢ WouldBlock → new.is_broken ≡ true)
  pub nothing : IfOk result (λ n. n ≡ 0 → (bytes ≡ []) ⊎ (new.is_broken ≡ true))

-- One write of these bytes: as many go out as the answer says, behind what was buffered.
pub record WritesBuffer (old new : WriteBufferState) (bytes : List ℕ) (result : Result ℕ Error) : Type 0 where
  pub accepts : Accepts old new bytes result
  -- no more is buffered than was or may be
  pub limit : length new.buffered ≤ max (length old.buffered) (2 * old.bound)
  pub bound_is : new.bound ≡ old.bound
  -- after a failed write nothing changes
  pub broken : old.is_broken ≡ true → (new ≡ old) × IsErrAnd result (λ e. error_kind e ≡ BrokenPipe)
  pub whole : IfOk result (λ n. n ≡ length bytes → StaysWritable old new)
