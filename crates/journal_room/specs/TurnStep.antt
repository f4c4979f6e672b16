-- What contracts see of the step that a turn is, and of its payload.
use Rattle.std.specs.Prelude.{◌-◌, ℕ, Option, Some, None, length}
use Rattle.resp_core.specs.Text.{text as text_of}
use Rattle.resp_core.specs.Value.{tree_of}
use Rattle.splitter.specs.Request.{length_of}
use Rattle.splitter.specs.declared.plans.Local.{Local}
use Rattle.splitter.specs.declared.plans.Local.TheVariants as locals
use Rattle.proxy_history.specs.declared.event.Event.{Event}
use Rattle.proxy_history.specs.declared.event.Event.TheVariants as events
use Rattle.proxy_history.specs.declared.answer.Answer.{Answer}
use Rattle.proxy_history.specs.declared.answer.Answer.TheVariants as answers
use Rattle.journal_budget.specs.declared.step_kind.StepKind.{StepKind}
use Rattle.journal_budget.specs.declared.step_kind.StepKind.TheVariants as kinds
use Rattle.journal_budget.specs.declared.payload_counts.PayloadCounts.{PayloadCounts}
use Rattle.journal_budget.specs.Budget.{capped}
use Rattle.journal_budget.specs.Counts.{no_bytes, part_bytes, reply_bytes}
use Rattle.journal_budget.specs.Account.{AccountState, stepped_with}
use Rattle.journal_room.specs.declared.turn_step.TheConstants.{MAX_OWN_WORD, MAX_OWN_ERROR}

-- the kind of step that an answer is; a part that failed at once is neither sent nor answered
abbrev pub kind_of : Answer → StepKind
kind_of (answers.Opened conn) = kinds.Opened
kind_of (answers.Accepted index local parts no_host busy) = kinds.Accepted (parts - no_host - busy)
kind_of answers.Finishing = kinds.Finished
kind_of (answers.Sent epoch place text) = kinds.Sent
kind_of (answers.Matched trip) = kinds.Matched
kind_of (answers.Lost parts trip) = kinds.Lost parts
kind_of (answers.Swept returned ejected kept) = kinds.Swept
kind_of (answers.Bytes text) = kinds.Handed
kind_of answers.Closed = kinds.Closed

-- the payload bytes that an event brings
abbrev pub brought_by : Event → ℕ
brought_by (events.Arrived conn request) = capped (length_of request)
brought_by (events.Answered host epoch value t) = capped (length (text_of (tree_of value)))
brought_by _ = 0

-- the most bytes of the proxy's own answer to a command of so many bytes
abbrev pub own_answer : Local → ℕ → ℕ
own_answer locals.Echoed n = n
own_answer locals.Pong n = MAX_OWN_WORD
own_answer locals.Bye n = MAX_OWN_WORD
own_answer _ n = MAX_OWN_ERROR

-- the same, of an answer that may not be the proxy's own
abbrev pub own_bytes : Option Local → ℕ → ℕ
own_bytes None n = 0
own_bytes (Some local) n = own_answer local n

-- the bytes that a turn with this answer adds, whose event brought n bytes: those kept, those of replies, those handed out, and the
-- steps of the average
abbrev pub added : ℕ → Answer → PayloadCounts
added n (answers.Accepted index local parts no_host busy) = record no_bytes { kept = n; came = own_bytes local n }
added n (answers.Sent epoch place text) = part_bytes (length text)
added n (answers.Matched trip) = reply_bytes n
added n (answers.Bytes text) = record no_bytes { kept = length text; handed = length text }
added n _ = no_bytes

-- an account once a turn had this answer, whose event brought n bytes
abbrev pub noted : ℕ → Answer → AccountState → AccountState
noted n answer a = stepped_with (kind_of answer) (added n answer) a
