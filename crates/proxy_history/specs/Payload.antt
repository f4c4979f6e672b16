-- The payload that a history keeps, in bytes.
use Rattle.std.specs.Prelude.{ℕ, Bool, [], ◌∷◌, ◌+◌, ◌&&◌, nat_lt, nat_le, length}
use Rattle.resp_core.specs.Text.{text}
use Rattle.resp_core.specs.Value.{tree_of}
use Rattle.splitter.specs.declared.request.Request.{Request}
use Rattle.splitter.specs.Request.{length_of}
use Rattle.proxy_history.specs.Setting.{max_steps, max_payload}
use Rattle.proxy_history.specs.History.{History}
use Rattle.proxy_history.specs.declared.event.Event.{Event}
use Rattle.proxy_history.specs.declared.event.Event.TheVariants.{Arrived, Answered}
use Rattle.proxy_history.specs.declared.answer.Answer.{Answer}
use Rattle.proxy_history.specs.declared.answer.Answer.TheVariants as answer

-- the one spelling of a value counts, also where it has a CR or an LF that can't be written
abbrev pub length_of_request : Request → ℕ
length_of_request request = length_of request

-- the bytes that an event brings
abbrev pub length_of_event : Event → ℕ
length_of_event (Arrived conn request) = length_of_request request
length_of_event (Answered host e value t) = length (text (tree_of value))
length_of_event _ = 0

-- the bytes that an answer gives
abbrev pub length_of_answer : Answer → ℕ
length_of_answer (answer.Sent e place t) = length t
length_of_answer (answer.Bytes t) = length t
length_of_answer _ = 0

-- the bytes of a step
abbrev pub payload_of : Event → Answer → ℕ
payload_of event answer = length_of_event event + length_of_answer answer

-- the bytes of payload that a history keeps
abbrev pub payload : History → ℕ
payload [] = 0
payload (s ∷ before) = payload before + payload_of s.event s.answer

-- whether the journal has room for one more step with this answer
abbrev pub has_room : History → Event → Answer → Bool
has_room H event answer = nat_lt (length H) max_steps && nat_le (payload H + payload_of event answer) max_payload
