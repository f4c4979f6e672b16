-- The writing half of a socket: what its engine gave goes out by the socket, in order.
use Rattle.std.specs.Prelude.{◌≡◌, ◌⊎◌, ◌≤◌, ◌<◌, ◌*◌, ◌↔◌, [], ◌++◌, max, IsTrue, ℕ, Bool, true, false, List, Option, None, Result, IfOk, IfErr, length, take}
use Rattle.std.specs.IoError.{error_kind}
use Rattle.std.specs.declared.io.Error.{Error}
use Rattle.std.specs.declared.io.ErrorKind.TheVariants.{WouldBlock}
use Rattle.proxy_devices.specs.Device.{Counts, Passed, WriteState}
use Rattle.proxy_devices.specs.Faulty.{moved_count}
use Rattle.proxy_devices.specs.declared.tally.IoOutcome.{IoOutcome}
use Rattle.socket_halves.specs.WriteBuffer.{WriteBufferState, GoesOut, StaysWritable, WritesBuffer, accepted, fresh_buffer}

-- its socket with the buffer; whether the last write took less than it was given, and whether the socket has had room since;
-- and its counts
pub record SocketWriterState : Type 0 where
  pub output : WriteBufferState
  pub is_short : Bool
  pub is_writable_again : Bool
  pub counts : Counts

-- over a socket that has these bytes and may take some, nothing was accepted or counted
abbrev pub fresh_writer : Option (List ℕ) → SocketWriterState
fresh_writer held = record {
  output = fresh_buffer held;
  is_short = false;
  is_writable_again = false;
  counts = record { failed = 0; paused = 0 };
}

-- what of the accepted bytes has passed to the socket, which is what is not buffered; and whether a write failed
abbrev pub passed_of : WriteBufferState → Passed
passed_of out = record { bytes = out.taken; has_failed = out.is_broken }

-- what has passed is the first of what was accepted, and all of it exactly where nothing is buffered
abbrev pub PassedIsFirst : Type 0
PassedIsFirst = (out : WriteBufferState) → (accepted out ≡ (passed_of out).bytes ++ out.buffered)
    × ((out.buffered ≡ []) ↔ ((passed_of out).bytes ≡ accepted out))

-- what its engine sees of it: all that was accepted, what of it has passed, and the counts; what a socket has isn't known
abbrev pub engine_writer : SocketWriterState → WriteState
engine_writer w = record { contents = None; taken = accepted w.output; passed = passed_of w.output; counts = w.counts }

-- whether a write took less than it was given, and may go on later, by its outcome; of a pause nothing is said
abbrev pub IsShortBy : IoOutcome → List ℕ → Bool → Type 0
IsShortBy (IoOutcome.Moved n) bytes is_short = IsTrue is_short ↔ (n < length bytes)
IsShortBy IoOutcome.End bytes is_short = is_short ≡ true
IsShortBy IoOutcome.Idle bytes is_short = Unit {0}
IsShortBy IoOutcome.Failed bytes is_short = is_short ≡ false

-- One write of these bytes by a writing half, by its answer.
pub record WritesHalf (old new : SocketWriterState) (bytes : List ℕ) (result : Result ℕ Error) : Type 0 where
  pub output : WritesBuffer old.output new.output bytes result
  -- it is short where it took less, or paused
  pub short : IfOk result (λ n. IsTrue new.is_short ↔ (n < length bytes))
  pub refused : IfErr result (λ e. IsTrue new.is_short ↔ (error_kind e ≡ WouldBlock))
  pub again : new.is_writable_again ≡ old.is_writable_again

-- One write of these bytes by a writing half, by what its engine is told.
pub record TellsWrite (old new : SocketWriterState) (bytes : List ℕ) (told : IoOutcome) : Type 0 where
  pub goes_out : GoesOut old.output new.output (take (moved_count told) bytes)
  -- why nothing was taken
  pub idle : told ≡ IoOutcome.Idle → (new.output.is_writable ≡ false) ⊎ (new.output.is_broken ≡ true)
  pub ended : told ≡ IoOutcome.End → new.output.is_broken ≡ true
  pub failed : told ≡ IoOutcome.Failed → new.output.is_broken ≡ true
  -- no more is buffered than was or may be
  pub limit : length new.output.buffered ≤ max (length old.output.buffered) (2 * old.output.bound)
  pub bound_is : new.output.bound ≡ old.output.bound
  -- after a failed write nothing changes
  pub broken : old.output.is_broken ≡ true → (told ≡ IoOutcome.Failed) × (new.output ≡ old.output)
  pub short : IsShortBy told bytes new.is_short
  pub whole : told ≡ IoOutcome.Moved (length bytes) → StaysWritable old.output new.output
  pub again : new.is_writable_again ≡ old.is_writable_again
