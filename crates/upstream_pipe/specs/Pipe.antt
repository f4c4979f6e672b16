-- What waits on a pipe, what flies, and which reply belongs to which part.
use Rattle.std.specs.Prelude.{◌≡◌, ◌≢◌, ◌⊎◌, ◌↔◌, ◌≤◌, ◌<◌, ◌==◌, ◌+◌, ◌-◌, ◌^◌, ℕ, Bool, not, List, [], ◌∷◌, ◌++◌, Option, Some, None, Result, IfOk, IfErr, OnOk, OnErr, IsOk, IsErrOf, if◌then◌else◌, length, drop, map, slice_get}
use Rattle.limits.specs.declared.queues.TheConstants.{MAX_WAITING}
use Rattle.upstream_pipe.specs.declared.lost.Lost.{Lost}
use Rattle.upstream_pipe.specs.declared.part.Owner.{Owner}
use Rattle.upstream_pipe.specs.declared.part.Part.{Part}
use Rattle.upstream_pipe.specs.declared.refusal.PipeRefusal.{PipeRefusal}

-- what contracts see of a pipe: the parts that wait, the owners of those that fly (none in the place of one that was
-- forgotten), the epoch, how many parts were taken in it, and for how many more there is memory, both to wait and then to fly
pub record PipeState : Type 0 where
  pub waiting : List Part
  pub flying : List (Option Owner)
  pub epoch : ℕ
  pub taken : ℕ
  pub room : ℕ

-- These parts were sent in this epoch, and `count` of them were answered: the others fly, in their order.
pub record HasSent (p : PipeState) (sent : List (Option Owner)) (count : ℕ) : Type 0 where
  pub some : count ≤ length sent
  pub flying : p.flying ≡ drop count sent

-- nothing has changed
abbrev pub IsAsBefore : PipeState → PipeState → Type 0
IsAsBefore old new = new ≡ old

-- whose a part is
abbrev pub owner_in : Part → Owner
owner_in part = part.owner

-- whether a part that waits is of another connection than this
abbrev pub is_kept : ℕ → Part → Bool
is_kept conn part = not (part.owner.conn == conn)

-- the place of a part that flies, once this connection is forgotten
abbrev pub forgotten_owner : ℕ → Option Owner → Option Owner
forgotten_owner conn None = None
forgotten_owner conn (Some owner) = if owner.conn == conn then None else Some owner

-- room for this many more parts is made, or memory is refused; the parts are as before
pub record MakesRoom {A : Type 0} (old new : PipeState) (more : ℕ) (result : Result A PipeRefusal) : Type 0 where
  pub room : OnOk result (more ≤ new.room)
  -- where there was room already
  pub reserved : more ≤ old.room → IsOk result
  pub memory : IfErr result (λ e. e ≡ PipeRefusal.NoMemory)
  -- there is no less room
  pub kept : old.room ≤ new.room
  pub waiting : new.waiting ≡ old.waiting
  pub flying : new.flying ≡ old.flying
  pub epoch : new.epoch ≡ old.epoch
  pub taken : new.taken ≡ old.taken

-- a part waits behind the others, or comes back with a refusal
pub record Pushes {A : Type 0} (old new : PipeState) (given : Part) (result : Result A (PipeRefusal × Part)) : Type 0 where
  pub waiting : OnOk result (new.waiting ≡ old.waiting ++ given ∷ [])
  pub flying : new.flying ≡ old.flying
  pub epoch : new.epoch ≡ old.epoch
  pub taken : new.taken ≡ old.taken
  pub full : IfErr result (λ e. (e.0 ≡ PipeRefusal.Full) ↔ (MAX_WAITING ≤ length old.waiting))
  pub accepted : OnOk result (length old.waiting < MAX_WAITING)
  pub memory : IfErr result (λ e. e.0 ≢ PipeRefusal.Full → e.0 ≡ PipeRefusal.NoMemory)
  -- in room that was made memory isn't refused
  pub reserved : 0 < old.room → IfErr result (λ e. e.0 ≡ PipeRefusal.Full)
  -- it uses room for one part
  pub room : OnOk result (old.room ≤ new.room + 1)
  pub part : IfErr result (λ e. e.1 ≡ given)
  pub err : OnErr result (new.waiting ≡ old.waiting)
  pub kept : OnErr result (old.room ≤ new.room)

-- the oldest part that flies has its reply, or that is refused
pub record TakesReply (old new : PipeState) (told : ℕ) (result : Result (Option Owner) PipeRefusal) : Type 0 where
  -- of all that were sent in this epoch, its owner is that of the next without a reply
  pub place : IfOk result (λ owner. (sent : List (Option Owner)) (count : ℕ) → HasSent old sent count
      → (slice_get sent count ≡ Some owner) × HasSent new sent (count + 1))
  pub flying : IfOk result (λ owner. old.flying ≡ owner ∷ new.flying)
  pub stale : IsErrOf result (PipeRefusal.Stale old.epoch) ↔ (told ≢ old.epoch)
  pub unasked : IsErrOf result PipeRefusal.Unasked ↔ ((told ≡ old.epoch) × (old.flying ≡ []))
  pub refused : IfErr result (λ e. (told ≢ old.epoch) ⊎ (old.flying ≡ []))
  pub waiting : new.waiting ≡ old.waiting
  pub epoch : new.epoch ≡ old.epoch
  pub taken : new.taken ≡ old.taken
  pub room : old.room ≤ new.room
  pub err : OnErr result (new.flying ≡ old.flying)

-- the epoch ends and all its parts are lost, or that is refused
pub record EndsEpoch (old new : PipeState) (told : ℕ) (result : Result Lost PipeRefusal) : Type 0 where
  pub flying : IfOk result (λ lost. lost.flying.items ≡ old.flying)
  pub waiting : IfOk result (λ lost. lost.waiting.items ≡ map owner_in old.waiting)
  pub empty : OnOk result ((new.flying ≡ []) × (new.waiting ≡ []))
  pub epoch : OnOk result (new.epoch ≡ old.epoch + 1)
  pub taken : OnOk result (new.taken ≡ 0)
  pub room : old.room ≤ new.room
  pub stale : IsErrOf result (PipeRefusal.Stale old.epoch) ↔ (told ≢ old.epoch)
  pub spent : IsErrOf result PipeRefusal.EpochsSpent ↔ ((told ≡ old.epoch) × (told ≡ 2 ^ 64 - 1))
  pub memory : told ≡ old.epoch → told < 2 ^ 64 - 1 → IfErr result (λ e. e ≡ PipeRefusal.NoMemory)
  -- where nothing is lost no memory is taken
  pub idle : told ≡ old.epoch → told < 2 ^ 64 - 1 → old.flying ≡ [] → old.waiting ≡ [] → IsOk result
  pub err : OnErr result (IsAsBefore old new)
