-- What a socket's reading end tells its caller.
use Rattle.std.specs.Prelude.{◌≡◌, ◌≢◌, ◌⊎◌, ◌<◌, ◌++◌, ◌-◌, ℕ, Bool, true, false, List, [], Option, Some, None, Result, Ok, Err, IfOk, IfErr, IsErrAnd}
use Rattle.std.specs.Io.KnownBytes.{Consumes, IsAtEnd, ReadConsumes}
use Rattle.std.specs.IoError.{error_kind}
use Rattle.std.specs.declared.io.Error.{Error}
use Rattle.std.specs.declared.io.ErrorKind.TheVariants.{WouldBlock}
use Rattle.proxy_devices.specs.Device.{LogsCall}
use Rattle.socket_halves.specs.Moved.{moved_bytes}

-- all bytes that its readers delivered it, and all that it delivered its caller, the oldest first; whether a read may bring bytes;
-- whether the peer sends nothing more; and how many bytes are left before its input ends, if it is to end
pub record ReadEndState : Type 0 where
  pub received : List ℕ
  pub delivered : List ℕ
  pub is_readable : Bool
  pub is_closed : Bool
  pub left : Option ℕ

-- it may have bytes, and nothing was read
abbrev pub fresh_end : ReadEndState
fresh_end = record { received = []; delivered = []; is_readable = true; is_closed = false; left = None }

-- Its reader delivered it these bytes, and it delivered its caller the same, and no other. They are the reader's next ones, as far as
-- the reader tells what it has left.
pub record Passes (old new : ReadEndState) (rest rest' : Option (List ℕ)) (bytes : List ℕ) : Type 0 where
  pub next : Consumes rest rest' bytes
  pub received : new.received ≡ old.received ++ bytes
  pub delivered : new.delivered ≡ old.delivered ++ bytes

-- call after call, what it delivered its caller is what its readers delivered it, all of it
abbrev pub DeliveredIsReceived : Type 0
DeliveredIsReceived = (old new : ReadEndState) (rest rest' : Option (List ℕ)) (bytes : List ℕ)
    → Passes old new rest rest' bytes → old.delivered ≡ old.received → new.delivered ≡ new.received

-- Its reader delivered it some bytes, and it delivered its caller none of them. Its input is to end where it was to.
pub record Discards (old new : ReadEndState) (rest rest' : Option (List ℕ)) : Type 0 where
  pub gone : List ℕ
  pub next : Consumes rest rest' gone
  pub received : new.received ≡ old.received ++ gone
  pub delivered : new.delivered ≡ old.delivered
  pub left : new.left ≡ old.left
  pub closed : new.is_closed ≡ old.is_closed

-- its input was to end, and it paused: it ends here
pub record EndsByPause (old new : ReadEndState) : Type 0 where
  pub was_to_end : old.left ≢ None
  pub is_paused : new.is_readable ≡ false
  pub is_over : new.left ≡ Some 0

-- why a read into a buffer with room answers no byte: the reader is at its own end, or the input was over before, as its
-- last bytes had been delivered, or it ends by a pause
abbrev pub IsOver : ReadEndState → ReadEndState → Option (List ℕ) → Type 0
IsOver old new rest = IsAtEnd rest ⊎ (old.left ≡ Some 0) ⊎ EndsByPause old new

-- how many bytes are left by an answer: as many fewer as were delivered, and none where a pause ended the input
abbrev pub CountsDown : Option ℕ → Option ℕ → Result ℕ Error → Type 0
CountsDown None left result = left ≡ None
CountsDown (Some k) left (Ok n) = (left ≡ Some (k - n)) ⊎ ((n ≡ 0) × (left ≡ Some 0))
CountsDown (Some k) left (Err e) = left ≡ Some k

-- What an answer leaves for the next read, where the buffer had this much room: nothing after a pause; as much as before after another
-- error, after bytes that filled the buffer, or once the peer sends nothing more, since the end is then still to be read
pub record LeavesReadable (old new : ReadEndState) (room : ℕ) (result : Result ℕ Error) : Type 0 where
  pub paused : IfErr result (λ e. error_kind e ≡ WouldBlock → new.is_readable ≡ false)
  pub failed : IfErr result (λ e. error_kind e ≢ WouldBlock → new.is_readable ≡ old.is_readable)
  pub awake : IfOk result (λ n. 0 < n → (n ≡ room) ⊎ (old.is_closed ≡ true) → new.is_readable ≡ old.is_readable)
  pub closed : new.is_closed ≡ old.is_closed

-- its reader delivered it what came into a buffer of this much room, and it has delivered its caller none of that yet
pub record Receives (old new : ReadEndState) (rest rest' : Option (List ℕ)) (room : ℕ) (result : Result ℕ Error) (buffer : List ℕ)
    : Type 0 where
  pub bytes : ReadConsumes rest rest' result buffer
  pub received : LogsCall buffer result old.received new.received
  pub delivered : new.delivered ≡ old.delivered
  pub left : new.left ≡ old.left
  pub readable : LeavesReadable old new room result

-- One read into a buffer of this much room: what it delivers its caller is what its reader delivered it.
pub record ReadsEnd (old new : ReadEndState) (rest rest' : Option (List ℕ)) (room : ℕ) (result : Result ℕ Error) (buffer : List ℕ)
    : Type 0 where
  pub passes : Passes old new rest rest' (moved_bytes result buffer)
  -- no byte comes only where the input is over,
  pub ends : IfOk result (λ n. n ≡ 0 → 0 < room → IsOver old new rest')
  -- and then it stays over
  pub over : old.left ≡ Some 0 → (result ≡ Ok 0) × (new ≡ old)
  -- one that may have nothing pauses
  pub idle : old.is_readable ≡ false → old.left ≡ None → IsErrAnd result (λ e. error_kind e ≡ WouldBlock)
  pub left : CountsDown old.left new.left result
  pub readable : LeavesReadable old new room result
