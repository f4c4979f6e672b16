-- Why a link broke, over several moves.
use Rattle.std.proofs.Common.{◌≡◌, ◌⊎◌, ◌∙◌, ◌≤◌, ◌-◌, ◌≢◌, ℕ, Bool, true, false, List, [], ◌∷◌, Option, Some, None, inl, inr, refl, sym, ap}
use Rattle.std.specs.Prelude.{◌↔◌, IfErr}
use Rattle.proxy_history.specs.History.{Step}
use Rattle.proxy_history.specs.declared.event.Kind.{Kind}
use Rattle.proxy_history.specs.declared.refusal.Refusal.{Refusal}
use Rattle.proxy_engines.specs.Ends.{InboxState, KeepsReader}
use Rattle.proxy_engines.specs.Host.{HostOutboxState, LinkState, next_link}
use Rattle.proxy_engines.specs.Faults.{HasRead, IsCauseOf, IsOfDevice, LinkMove, IsDueErrorOn, IsLate, IsLateOn, IfFault, is_fault, either}
use Rattle.proxy_engines.specs.HostStep.{answer_of}
use Rattle.ticket_gate.specs.Journal.{StartsWith}
use Rattle.proxy_history.specs.declared.event.Event.{Event}
use Rattle.proxy_engines.specs.OneTurn.{HasHeld}
use Rattle.engine_work.specs.declared.error.EngineError.{EngineError}
use Rattle.proxy_engines.specs.declared.link.Outcome.{Outcome}

-- from one state of a link to the next
abbrev pub from_to : LinkState → LinkState → LinkMove
from_to j k = record { old = j; new = k }

module _ (i j k : LinkState) (P Q L M : Type 0) (inbox : j.inbox.counts.failed ≡ i.inbox.counts.failed) (writer : j.counts.failed ≡ i.counts.failed) (more : P → Q) (later : L → M) where
  pub cause_later : (kind : Kind) (error : Option EngineError) → IsCauseOf P L (from_to j k) kind error → IsCauseOf Q M (from_to i k) kind error
  cause_later Kind.Dropped None b = b
  cause_later Kind.Dropped (Some EngineError.ReadFailed) b = rw (← inbox) b
  cause_later Kind.Dropped (Some EngineError.WriteFailed) b = rw (← writer) b
  cause_later Kind.Garbled None (inl b) = inl b
  cause_later Kind.Garbled None (inr b) = inr (more b)
  cause_later Kind.Late None b = later b
  cause_later Kind.Refused e b = absurd b
  cause_later Kind.Dropped (Some EngineError.NoMemory) b = absurd b
  cause_later Kind.Dropped (Some (EngineError.TurnRefused denied)) b = absurd b
  cause_later Kind.Garbled (Some e) b = absurd b
  cause_later Kind.Late (Some e) b = absurd b

  pub fault_later : (o : Outcome) → IfFault o (IsCauseOf P L (from_to j k)) → IfFault o (IsCauseOf Q M (from_to i k))
  fault_later (Outcome.Fault kind error) b = cause_later kind error b
  fault_later Outcome.Moved b = tt
  fault_later Outcome.Idle b = tt

-- a fault that a device gave
module _ (i j k : LinkState) (P L : Type 0) (inbox : j.inbox.counts.failed ≡ i.inbox.counts.failed) (writer : j.counts.failed ≡ i.counts.failed) where
  cause_of_device : (kind : Kind) (error : Option EngineError) → IsOfDevice (from_to j k) kind error → IsCauseOf P L (from_to i k) kind error
  cause_of_device Kind.Dropped None b = b
  cause_of_device Kind.Dropped (Some EngineError.ReadFailed) b = rw (← inbox) b
  cause_of_device Kind.Dropped (Some EngineError.WriteFailed) b = rw (← writer) b
  cause_of_device Kind.Garbled e b = absurd b
  cause_of_device Kind.Late e b = absurd b
  cause_of_device Kind.Refused e b = absurd b
  cause_of_device Kind.Dropped (Some EngineError.NoMemory) b = absurd b
  cause_of_device Kind.Dropped (Some (EngineError.TurnRefused denied)) b = absurd b

  pub fault_of_device : (o : Outcome) → IfFault o (IsOfDevice (from_to j k)) → IfFault o (IsCauseOf P L (from_to i k))
  fault_of_device (Outcome.Fault kind error) b = cause_of_device kind error b
  fault_of_device Outcome.Moved b = tt
  fault_of_device Outcome.Idle b = tt

-- a read, and moves before and after it that make none
pub read_kept : (i j k l : InboxState) → KeepsReader i j → KeepsReader k l → HasRead j k → HasRead i l
read_kept i j k l (left, told, counts) (left', told', counts') (failed, inl (got, some, took)) = (rw (counts', ← counts) failed, inl (got, some, record { left = rw (left', ← left) took.left; told = rw (told', ← told) took.told }))
read_kept i j k l (left, told, counts) (left', told', counts') (failed, inr paused) = (rw (counts', ← counts) failed, inr (rw (counts', ← counts) paused))

-- the error of a fault tells of no turn
pub cause_due : (cause : Refusal → Event → List Step → Type 0) (seen : List Step) (on : HostOutboxState) (kind : Kind) (error : Option EngineError) (j k : LinkState) (P L : Type 0) → IsCauseOf P L (from_to j k) kind error → IfErr (answer_of error) (IsDueErrorOn cause seen on)
cause_due cause seen on kind None j k P L b = tt
cause_due cause seen on kind (Some EngineError.NoMemory) j k P L b = inl tt
cause_due cause seen on kind (Some EngineError.ReadFailed) j k P L b = inl tt
cause_due cause seen on kind (Some EngineError.WriteFailed) j k P L b = inl tt
cause_due cause seen on Kind.Dropped (Some (EngineError.TurnRefused denied)) j k P L b = absurd b
cause_due cause seen on Kind.Garbled (Some (EngineError.TurnRefused denied)) j k P L b = absurd b
cause_due cause seen on Kind.Late (Some (EngineError.TurnRefused denied)) j k P L b = absurd b
cause_due cause seen on Kind.Refused (Some (EngineError.TurnRefused denied)) j k P L b = absurd b

pub faulty_calm : (A : Type 0) (o : Outcome) → is_fault o ≡ true → is_fault o ≡ false → A
faulty_calm A o fault calm = let e : true ≡ false = sym fault ∙ calm in absurd cc

pub faulty_not_idle : (A : Type 0) (o : Outcome) → is_fault o ≡ true → o ≡ Outcome.Idle → A
faulty_not_idle A o fault idle = faulty_calm A o fault (ap is_fault idle)

pub default_faulty : (o : Outcome) → o ≢ Outcome.Idle → o ≢ Outcome.Moved → is_fault o ≡ true
default_faulty Outcome.Idle idle moved = absurd (idle refl)
default_faulty Outcome.Moved idle moved = absurd (moved refl)
default_faulty (Outcome.Fault kind error) idle moved = refl

pub no_fault : (o : Outcome) (P : Kind → Option EngineError → Type 0) → is_fault o ≡ false → IfFault o P
no_fault (Outcome.Fault kind error) P e = absurd cc
no_fault Outcome.Moved P e = tt
no_fault Outcome.Idle P e = tt

pub either_idle : (p q : Outcome) → either p q ≡ Outcome.Idle → (p ≡ Outcome.Idle) × (q ≡ Outcome.Idle)
either_idle Outcome.Idle q e = (refl, e)
either_idle Outcome.Moved q e = absurd cc
either_idle (Outcome.Fault kind error) q e = absurd cc

-- what held of a list held of one between the first and a later one
pub idle_then : (cause : Event → List Step → Type 0) (event : Event) (A B : Type 0) (x y z : List Step) → StartsWith y x → StartsWith z y → A ⊎ (B × cause event y) → A ⊎ (B × HasHeld cause event x z)
idle_then cause event A B x y z later last (inl a) = inl a
idle_then cause event A B x y z later last (inr b) = inr (b.0, (y, later, last, b.1))

-- the first of a list, or 0
abbrev front_of : List ℕ → ℕ
front_of [] = 0
front_of (x ∷ xs) = x

-- a late reply is that of the oldest part
pub late_is : (l : HostOutboxState) (m oldest : ℕ) (rest : List ℕ) → l.moments ≡ oldest ∷ rest → IsLate l m → l.reply_ms ≤ m - oldest
late_is l m oldest rest is (first, others, moments, waited) =
    let same : oldest ≡ first = ap front_of (sym is ∙ moments) in rw same waited

-- where no part waits for a reply, none is late
pub not_late-none : (l : HostOutboxState) (m : ℕ) → l.moments ≡ [] → ¬ IsLate l m
not_late-none l m none (first, others, moments, _) = let e : [] ≡ first ∷ others = sym none ∙ moments in absurd cc

-- where nothing says that a reply is late, none is
pub not_late : (l : HostOutboxState) (m : ℕ) (b : Bool) → b ≡ false → (b ≡ true) ↔ IsLate l m → ¬ IsLate l m
not_late l m b calm exact late = let e : true ≡ false = sym (exact.1 late) ∙ calm in absurd cc

-- no part waits for a reply after a fault
pub not_late-anew : (l l' : HostOutboxState) (m : ℕ) → l' ≡ next_link l → ¬ IsLate l' m
not_late-anew l l' m is = not_late-none l' m (ap (λ (z : HostOutboxState). z.moments) is)

-- a move that came to no fault came to no late reply
pub not_late-calm : (l : HostOutboxState) (m : ℕ) (o : Outcome) → is_fault o ≡ true → is_fault o ≡ false → ¬ IsLate l m
not_late-calm l m o fault calm = let e : true ≡ false = sym fault ∙ calm in absurd cc

-- a late reply, over moves before which nothing was read
pub late_from : (i j k : LinkState) (l : HostOutboxState) (m : ℕ) → j.inbox ≡ i.inbox → IsLateOn l (from_to j k) m → IsLateOn l (from_to i k) m
late_from i j k l m inbox late = record { late = late.late; reads = rw inbox at late.reads; none_waits = late.none_waits; all = late.all }
