use Rattle.std.proofs.Common.{inl, inr, refl}
use Rattle.proxy_core.proofs.machine.make_room.Goals as goal

pub returns-in-Err-NoMemory-clause-refused : goal.returns-in-Err-NoMemory-clause-refused
returns-in-Err-NoMemory-clause-refused c =
    inl (refl, λ full. let clash = rw (c.in-Err-NoMemory.is, c.in-Err-NoMemory.field-0-is) at (c.room.ensures.full).1 full in absurd cc)

pub returns-in-Err-JournalFull-clause-refused : goal.returns-in-Err-JournalFull-clause-refused
returns-in-Err-JournalFull-clause-refused c = inr (refl, (c.room.ensures.full).0 (rw (c.in-Err-JournalFull.is, c.in-Err-JournalFull.field-0-is) refl))

pub returns-in-Ok-clause-room : goal.returns-in-Ok-clause-room
returns-in-Ok-clause-room c =
    (rw c.in-Ok.is at c.room.ensures.room, λ full. let clash = rw c.in-Ok.is at (c.room.ensures.full).1 full in absurd cc)
