-- Which histories are legal: each step has no cause of refusal before it, and its answer is the one that the past gives.
use Rattle.std.specs.Prelude.{◌≡◌, false, [], ◌∷◌, Some, None, IsTrue}
use Rattle.proxy_history.specs.Setting.{Setting}
use Rattle.proxy_history.specs.History.{History, Step}
use Rattle.proxy_history.specs.Part.{Past}
use Rattle.proxy_history.specs.Past.{past}
use Rattle.proxy_history.specs.Cause.{own_cause}
use Rattle.proxy_history.specs.Payload.{has_room}
use Rattle.proxy_history.specs.Answer.{answer_to}
use Rattle.proxy_history.specs.declared.event.Event.{Event}
use Rattle.proxy_history.specs.declared.event.Event.TheVariants.{Handed}
use Rattle.proxy_history.specs.declared.refusal.Refusal.{Refusal}
use Rattle.proxy_history.specs.declared.refusal.Refusal.TheVariants as refusal

-- the step may come next
pub record MayFollow (S : Setting) (past : Past) (s : Step) : Type 0 where
  pub has_no_cause : own_cause S past s.event ≡ None
  pub is_answered : s.answer ≡ answer_to S past s.event
  pub has_room : IsTrue (has_room past.steps s.event s.answer)

-- each step may follow those before it
abbrev pub IsLegal : Setting → History → Type 0
IsLegal S [] = Unit {0}
IsLegal S (s ∷ before) = IsLegal S before × MayFollow S (past S before) s

-- The step of an event fits the journal. Nothing is asked of a reply that is handed out: its text takes memory before its
-- length is known.
abbrev pub Fits : Setting → History → Event → Type 0
Fits S H (Handed conn) = Unit {0}
Fits S H event = IsTrue (has_room H event (answer_to S (past S H) event))

-- The refusal has its cause. A refusal for want of memory or of room has it only where the event has none of its own, and
-- want of memory is told only where the step fits: else it is want of room.
abbrev pub IsCause : Setting → History → Event → Refusal → Type 0
IsCause S H event refusal.NoMemory = (own_cause S (past S H) event ≡ None) × Fits S H event
IsCause S H event refusal.JournalFull =
    (own_cause S (past S H) event ≡ None) × (has_room H event (answer_to S (past S H) event) ≡ false)
IsCause S H event r = own_cause S (past S H) event ≡ Some r
