-- The reading half of a socket: what it tells its engine is what its socket gave.
use Rattle.std.specs.Prelude.{◌≡◌, ◌⊎◌, ◌-◌, ℕ, Bool, true, false, List, Option, Some, None, Result, Ok, IsErrAnd, take}
use Rattle.std.specs.IoError.{error_kind}
use Rattle.std.specs.declared.io.Error.{Error}
use Rattle.std.specs.declared.io.ErrorKind.TheVariants.{BrokenPipe, WouldBlock}
use Rattle.proxy_devices.specs.Device.{Counts, ReadState}
use Rattle.proxy_devices.specs.Faulty.{moved_count}
use Rattle.proxy_devices.specs.declared.tally.IoOutcome.{IoOutcome}
use Rattle.socket_halves.specs.Moved.{moved_bytes}
use Rattle.socket_halves.specs.ReadEnd.{ReadEndState, CountsDown, LeavesReadable, Passes, fresh_end}

-- its reading end, whether each read fails from here on, and its counts
pub record SocketReaderState : Type 0 where
  pub end : ReadEndState
  pub is_broken : Bool
  pub counts : Counts

-- it may have bytes, and nothing was read or counted
abbrev pub fresh_reader : SocketReaderState
fresh_reader = record { end = fresh_end; is_broken = false; counts = record { failed = 0; paused = 0 } }

-- what its engine sees of it: all that was delivered, and the counts; what a socket has left isn't known
abbrev pub engine_reader : SocketReaderState → ReadState
engine_reader r = record { remaining = None; told = r.end.delivered; counts = r.counts }

-- The socket gave these bytes, the engine got the same, and no other. Reads go on failing or go on as before.
pub record PassesOn (old new : SocketReaderState) (bytes : List ℕ) : Type 0 where
  pub passes : Passes old.end new.end None None bytes
  pub broken : new.is_broken ≡ old.is_broken

-- where all that was received had been delivered, it still is
abbrev pub StaysWhole : ReadEndState → ReadEndState → Type 0
StaysWhole old new = old.delivered ≡ old.received → new.delivered ≡ new.received

-- all that was received was delivered, or each read fails from here on
abbrev pub IsWholeOrBroken : ReadEndState → Bool → Type 0
IsWholeOrBroken end is_broken = (end.delivered ≡ end.received) ⊎ (is_broken ≡ true)

-- how many bytes are left by an outcome: as many fewer as were delivered, and none where a pause ended the input
abbrev pub LeavesLeft : Option ℕ → Option ℕ → IoOutcome → Type 0
LeavesLeft None left told = left ≡ None
LeavesLeft (Some k) left (IoOutcome.Moved n) = left ≡ Some (k - n)
LeavesLeft (Some k) left IoOutcome.End = (left ≡ Some k) ⊎ (left ≡ Some 0)
LeavesLeft (Some k) left IoOutcome.Idle = left ≡ Some k
LeavesLeft (Some k) left IoOutcome.Failed = left ≡ Some k

-- One read by a reading half into a buffer of this much room, by its answer.
pub record ReadsHalf (old new : SocketReaderState) (room : ℕ) (result : Result ℕ Error) (buffer : List ℕ) : Type 0 where
  pub passes : PassesOn old new (moved_bytes result buffer)
  pub whole : StaysWhole old.end new.end
  -- broken off, it fails and doesn't ask the socket
  pub broken : old.is_broken ≡ true → (new.end ≡ old.end) × IsErrAnd result (λ e. error_kind e ≡ BrokenPipe)
  -- where the input is over it stays over
  pub over : old.is_broken ≡ false → old.end.left ≡ Some 0 → (result ≡ Ok 0) × (new ≡ old)
  -- where the socket may have nothing it pauses
  pub idle : old.is_broken ≡ false → old.end.is_readable ≡ false → old.end.left ≡ None
      → IsErrAnd result (λ e. error_kind e ≡ WouldBlock)
  pub left : CountsDown old.end.left new.end.left result
  pub readable : LeavesReadable old.end new.end room result

-- One read by a reading half into a buffer of this much room, by what its engine is told.
pub record TellsRead (old new : SocketReaderState) (room : ℕ) (told : IoOutcome) (buffer : List ℕ) : Type 0 where
  pub passes : PassesOn old new (take (moved_count told) buffer)
  pub whole : StaysWhole old.end new.end
  pub broken : old.is_broken ≡ true → (told ≡ IoOutcome.Failed) × (new.end ≡ old.end)
  pub over : old.is_broken ≡ false → old.end.left ≡ Some 0 → (told ≡ IoOutcome.End) × (new ≡ old)
  pub idle : old.is_broken ≡ false → old.end.is_readable ≡ false → old.end.left ≡ None → told ≡ IoOutcome.Idle
  pub left : LeavesLeft old.end.left new.end.left told
  -- it may have bytes as before after some that filled the buffer, or once the peer sends nothing more
  pub awake : (n : ℕ) → told ≡ IoOutcome.Moved n → (n ≡ room) ⊎ (old.end.is_closed ≡ true)
      → new.end.is_readable ≡ old.end.is_readable
  pub closed : new.end.is_closed ≡ old.end.is_closed
