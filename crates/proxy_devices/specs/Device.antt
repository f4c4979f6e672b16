-- What a call of a device tells, and what it counts.
use Rattle.std.specs.Prelude.{Bool, true, false, ◌≡◌, ◌≢◌, ◌⊎◌, ◌<◌, ◌≤◌, ◌+◌, ◌-◌, ◌^◌, ◌++◌, min, ℕ, List, [], Option, Result, Ok, Err, length, take}
use Rattle.std.specs.Io.KnownBytes.{Consumes, Appends, Keeps, IsAtEnd}
use Rattle.std.specs.IoError.{error_kind}
use Rattle.std.specs.declared.io.Error.{Error}
use Rattle.std.specs.declared.io.ErrorKind.{ErrorKind}
use Rattle.std.specs.declared.io.ErrorKind.TheVariants.{Interrupted, WouldBlock}
use Rattle.proxy_devices.specs.declared.tally.IoOutcome.{IoOutcome}

-- one more, and the greatest number stays
abbrev pub HasRisen : ℕ → ℕ → Type 0
HasRisen old new = new ≡ min (old + 1) (2 ^ 64 - 1)

-- a device's counts: of calls that failed, and of calls that paused
pub record Counts : Type 0 where
  pub failed : ℕ
  pub paused : ℕ

-- one of the counts has risen and the other is as it was
pub record HasFailed (old new : Counts) : Type 0 where
  pub failed : HasRisen old.failed new.failed
  pub paused : new.paused ≡ old.paused

-- one pause more, and no fault
pub record WasIdle (old new : Counts) : Type 0 where
  pub failed : new.failed ≡ old.failed
  pub paused : HasRisen old.paused new.paused

-- whether it told of bytes
abbrev pub is_moved : IoOutcome → Bool
is_moved (IoOutcome.Moved n) = true
is_moved told = false

-- what clauses see of a reader: the bytes that it has left, as far as it tells; all that it told, the oldest first; its counts
pub record ReadState : Type 0 where
  pub remaining : Option (List ℕ)
  pub told : List ℕ
  pub counts : Counts

-- a reader's state, by the functions of its type
abbrev pub reader_state : {R : Type 0} → (R → Option (List ℕ)) → (R → List ℕ) → (R → Counts) → R → ReadState
reader_state remaining told counts r = record { remaining = remaining r; told = told r; counts = counts r }

-- the reader told the first n bytes of the buffer, at least one: the next of those that it had left
pub record TellsBytes (old new : ReadState) (buffer : List ℕ) (n : ℕ) : Type 0 where
  pub some : 0 < n
  pub fits : n ≤ length buffer
  pub next : Consumes old.remaining new.remaining (take n buffer)
  pub told : new.told ≡ old.told ++ take n buffer
  pub counts : new.counts ≡ old.counts

-- the reader told no byte
pub record TellsNone (old new : ReadState) : Type 0 where
  pub kept : Keeps old.remaining new.remaining
  pub told : new.told ≡ old.told

-- what a read told: bytes came, or none did, at the end of the input, for a pause or for a fault
abbrev pub IsRead : ReadState → ReadState → List ℕ → IoOutcome → Type 0
IsRead old new buffer (IoOutcome.Moved n) = TellsBytes old new buffer n
IsRead old new buffer IoOutcome.End = TellsNone old new × IsAtEnd new.remaining × (new.counts ≡ old.counts)
IsRead old new buffer IoOutcome.Idle = TellsNone old new × WasIdle old.counts new.counts
IsRead old new buffer IoOutcome.Failed = TellsNone old new × HasFailed old.counts new.counts

-- what of the bytes that a writer took has passed to what is behind it, the oldest first; and whether it failed, so that no more will
pub record Passed : Type 0 where
  pub bytes : List ℕ
  pub has_failed : Bool

-- all of these bytes have passed, and more will
abbrev pub passed_all : List ℕ → Passed
passed_all bytes = record { bytes = bytes; has_failed = false }

-- what clauses see of a writer: its bytes, as far as it tells; all that it took, the oldest first; what of it has passed; its counts
pub record WriteState : Type 0 where
  pub contents : Option (List ℕ)
  pub taken : List ℕ
  pub passed : Passed
  pub counts : Counts

-- a writer's state, by the functions of its type
abbrev pub writer_state : {W : Type 0} → (W → Option (List ℕ)) → (W → List ℕ) → (W → Passed) → (W → Counts) → W → WriteState
writer_state contents taken passed counts w = record { contents = contents w; taken = taken w; passed = passed w; counts = counts w }

-- the writer took the first n of these bytes, at least one
pub record TakesBytes (old new : WriteState) (bytes : List ℕ) (n : ℕ) : Type 0 where
  pub some : 0 < n
  pub fits : n ≤ length bytes
  pub next : Appends old.contents new.contents (take n bytes)
  pub taken : new.taken ≡ old.taken ++ take n bytes
  pub counts : new.counts ≡ old.counts

-- the writer took no byte
pub record TakesNone (old new : WriteState) : Type 0 where
  pub kept : Keeps old.contents new.contents
  pub taken : new.taken ≡ old.taken

-- what a write told: bytes were taken, or none were, for a pause or for a fault
abbrev pub IsWritten : WriteState → WriteState → List ℕ → IoOutcome → Type 0
IsWritten old new bytes (IoOutcome.Moved n) = TakesBytes old new bytes n
IsWritten old new bytes IoOutcome.End = TakesNone old new × HasFailed old.counts new.counts
IsWritten old new bytes IoOutcome.Idle = TakesNone old new × WasIdle old.counts new.counts
IsWritten old new bytes IoOutcome.Failed = TakesNone old new × HasFailed old.counts new.counts

-- an error that says no more than that there is nothing for now
abbrev pub IsPause : ErrorKind → Type 0
IsPause kind = (kind ≡ WouldBlock) ⊎ (kind ≡ Interrupted)

-- an error is counted as what it is, a pause or a fault
abbrev pub CountsError : ErrorKind → Counts → Counts → Type 0
CountsError kind counts counts' = (IsPause kind × WasIdle counts counts') ⊎ ((¬ IsPause kind) × HasFailed counts counts')

-- what is counted of a read by its answer
abbrev pub CountsRead : Result ℕ Error → Counts → Counts → Type 0
CountsRead (Ok n) counts counts' = counts' ≡ counts
CountsRead (Err e) counts counts' = CountsError (error_kind e) counts counts'

-- what is counted of a write of these bytes by its answer: one that took nothing of what it was given has failed
abbrev pub CountsWrite : List ℕ → Result ℕ Error → Counts → Counts → Type 0
CountsWrite bytes (Ok n) counts counts' =
    ((n ≡ 0) × (bytes ≢ []) × HasFailed counts counts') ⊎ (((n ≢ 0) ⊎ (bytes ≡ [])) × (counts' ≡ counts))
CountsWrite bytes (Err e) counts counts' = CountsError (error_kind e) counts counts'

-- what is logged of a call by its answer: the first n of these bytes where it moved n, and else nothing
abbrev pub LogsCall : List ℕ → Result ℕ Error → List ℕ → List ℕ → Type 0
LogsCall bytes (Ok n) log log' = log' ≡ log ++ take n bytes
LogsCall bytes (Err e) log log' = log' ≡ log
