-- A place that didn't enter at once, and what it found.
use Rattle.ticket_gate.specs.declared.view.Knowledge.{Knowledge}
use Rattle.ticket_gate.specs.declared.entry.EntryRefusal.{EntryRefusal}
use Rattle.ticket_gate.specs.declared.entry.EntryRefusal.TheVariants.{Busy, Spent}
use Rattle.ticket_gate.specs.Refusal.{FoundBusy, FoundSpent}

-- the place found the gate busy, or all tickets drawn, as the refusal tells
abbrev pub FoundShut : {E A C : Type 0} → Knowledge E A C → Knowledge E A C → EntryRefusal → Type 0
FoundShut before after (Busy served drawn) = FoundBusy served drawn before after
FoundShut before after Spent = FoundSpent before after
