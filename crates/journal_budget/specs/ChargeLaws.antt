-- What follows of the charges of commands for the payload of a journal.
use Rattle.std.specs.Prelude.{◌≤◌, ◌+◌, ◌-◌, ◌*◌, ℕ, ⊤, List, [], ◌∷◌}
use Rattle.limits.specs.declared.journals.TheConstants.{MAX_BYTES}
use Rattle.journal_budget.specs.declared.payload.TheConstants.{MAX_ERROR_BYTES}
use Rattle.journal_budget.specs.declared.reply_sizes.TheConstants.{MAX_EXPECTED}
use Rattle.journal_budget.specs.Payload.{PayloadState, HasRoomForCommand, kept_bytes}
use Rattle.journal_budget.specs.ReplySizes.{SizesState, charge_for}

-- what the payload of a journal may be without the texts of errors
abbrev pub room : ℕ
room = MAX_BYTES - MAX_ERROR_BYTES

-- What happens to the payload of a journal: a command is taken in, with this charge; of a reply this many bytes come, of a command
-- that had so much of its charge for them; so many are handed out, and so much of the charge ends; a charge is lowered by so much;
-- this many other bytes are kept, as those of commands.
pub data PayloadEvent : Type 0 where
  taken : ℕ → PayloadEvent
  came : ℕ → ℕ → PayloadEvent
  handed : ℕ → ℕ → PayloadEvent
  lowered : ℕ → PayloadEvent
  other : ℕ → PayloadEvent

-- the lists are of all events, the newest first

-- the bytes of replies that came and aren't handed out
abbrev pub unhanded : List PayloadEvent → ℕ
unhanded [] = 0
unhanded (PayloadEvent.came n c ∷ es) = unhanded es + n
unhanded (PayloadEvent.handed n c ∷ es) = unhanded es - n
unhanded (e ∷ es) = unhanded es

-- the payload bytes of the journal
abbrev pub used : List PayloadEvent → ℕ
used [] = 0
used (PayloadEvent.came n c ∷ es) = used es + n
used (PayloadEvent.handed n c ∷ es) = used es + n
used (PayloadEvent.other n ∷ es) = used es + n
used (e ∷ es) = used es

-- with those that are still to be handed out
abbrev pub kept : List PayloadEvent → ℕ
kept es = used es + unhanded es

-- the charges that haven't ended
abbrev pub charged : List PayloadEvent → ℕ
charged [] = 0
charged (PayloadEvent.taken c ∷ es) = charged es + c
charged (PayloadEvent.handed n c ∷ es) = charged es - c
charged (PayloadEvent.lowered c ∷ es) = charged es - c
charged (e ∷ es) = charged es

-- what of the charges is for replies that haven't come
abbrev pub awaited : List PayloadEvent → ℕ
awaited [] = 0
awaited (PayloadEvent.taken c ∷ es) = awaited es + c
awaited (PayloadEvent.came n c ∷ es) = awaited es - c
awaited (PayloadEvent.lowered c ∷ es) = awaited es - c
awaited (e ∷ es) = awaited es

-- the bytes beyond all charges: a reply's twice, as it comes and as it is handed out
abbrev pub beyond : List PayloadEvent → ℕ
beyond [] = 0
beyond (PayloadEvent.came n c ∷ es) = beyond es + (2 * n - c)
beyond (PayloadEvent.other n ∷ es) = beyond es + n
beyond (e ∷ es) = beyond es

-- Each command was taken in where there was room for its charge beside the others. No charge was used or ended twice, and none
-- ended before its reply came.
abbrev pub IsHeldBack : List PayloadEvent → Type 0
IsHeldBack [] = ⊤
IsHeldBack (PayloadEvent.taken c ∷ es) = (kept es + (charged es + c) ≤ room) × IsHeldBack es
IsHeldBack (PayloadEvent.came n c ∷ es) = (c ≤ awaited es) × IsHeldBack es
IsHeldBack (PayloadEvent.handed n c ∷ es) = (n ≤ unhanded es) × (awaited es + c ≤ charged es) × IsHeldBack es
IsHeldBack (PayloadEvent.lowered c ∷ es) = (c ≤ awaited es) × IsHeldBack es
IsHeldBack (PayloadEvent.other n ∷ es) = IsHeldBack es

-- Then the payload passes the room by no more than what came beyond the charges. Where each reply was within its charge, and nothing
-- else came, it never passes it.
abbrev pub ChargedFits : Type 0
ChargedFits = (es : List PayloadEvent) → IsHeldBack es → kept es ≤ room + beyond es

-- A command has room only where what is kept and all charges fit, unless the journal is empty.
abbrev pub RoomHoldsCharges : Type 0
RoomHoldsCharges = (p : PayloadState) (owed unfinished : ℕ) → HasRoomForCommand p owed unfinished → 1 ≤ p.used
    → kept_bytes p + p.charged + 2 * unfinished ≤ room

-- A command whose charge is the only one is never refused for it.
abbrev pub AloneHasRoom : Type 0
AloneHasRoom = (p : PayloadState) (owed unfinished : ℕ) (s : SizesState) → s.expected ≤ MAX_EXPECTED
    → HasRoomForCommand (record p { charged = 0 }) owed unfinished
    → HasRoomForCommand (record p { charged = charge_for 1 s }) owed unfinished
