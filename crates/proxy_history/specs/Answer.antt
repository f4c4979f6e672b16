-- The answer to each event.
use Rattle.std.specs.Prelude.{ℕ, Bool, false, List, [], ◌∷◌, ◌+◌, not, if◌then◌else◌, Option, Some, None, length, count_by, is_some}
use Rattle.std.specs.Option.{unwrap_or}
use Rattle.resp_core.specs.Tree.{null_bulk}
use Rattle.resp_core.specs.Text.{text}
use Rattle.splitter.specs.declared.plans.Local.{Local}
use Rattle.splitter.specs.Plan.{Plan, here, leave, parts}
use Rattle.ejector.specs.declared.mark.Mark.{Mark}
use Rattle.ejector.specs.declared.mark.Mark.TheVariants.{Sweep}
use Rattle.ejector.specs.declared.answer.Trip.{Trip}
use Rattle.ejector.specs.declared.settings.Rules.{Rules}
use Rattle.ejector.specs.State.{State}
use Rattle.ejector.specs.declared.answer.Trip.TheVariants as trips
use Rattle.ejector.specs.declared.answer.Swept.{Swept as SweptHosts}
use Rattle.ejector.specs.Ejection.{trip, sweep_answer}
use Rattle.proxy_history.specs.Setting.{Setting}
use Rattle.proxy_history.specs.History.{openings, accepted_count, handed_count, epoch, plan_for}
use Rattle.proxy_history.specs.Part.{Part, Past}
use Rattle.proxy_history.specs.Waiting.{waiting_parts, flying_count, sent_to}
use Rattle.proxy_history.specs.Arrival.{parts_by}
use Rattle.proxy_history.specs.Marks.{mark_by}
use Rattle.proxy_history.specs.Outcome.{outcome}
use Rattle.proxy_history.specs.declared.event.Event.{Event}
use Rattle.proxy_history.specs.declared.event.Event.TheVariants.{Opened, Arrived, Finished, Taken, Answered, Failed, Swept, Handed, Closed}
use Rattle.proxy_history.specs.declared.answer.Answer.{Answer}
use Rattle.proxy_history.specs.declared.answer.Answer.TheVariants as answer

-- the name of the proxy's own answer, if it gives one
abbrev pub local_of : Plan → Option Local
local_of (here name value) = Some name
local_of (leave name value) = Some name
local_of (parts how list) = None

-- whether a part has no host
abbrev pub is_hostless : Part → Bool
is_hostless p = not (is_some p.host)

-- it has a host, and got a value at once
abbrev pub is_busy : Part → Bool
is_busy p = if is_some p.host then is_some p.local else false

-- the answer to a request that is accepted
abbrev pub accepts : ℕ → Option Local → List Part → Answer
accepts index local placed = answer.Accepted index local (length placed) (count_by is_hostless placed) (count_by is_busy placed)

-- the text of the first of some parts
abbrev pub text_of_first : List Part → List ℕ
text_of_first [] = []
text_of_first (p ∷ _) = p.text

-- what the newest of these marks does to its host after the others, if there is one
abbrev pub trip_by : Rules → State → List Mark → List Mark → Trip
trip_by rules O [] marks = trips.None
trip_by rules O (m ∷ _) marks = trip rules O m marks

-- the same after a past
abbrev pub trip_of : Setting → Past → List Mark → Trip
trip_of S past marks = trip_by S.rules S.opening marks past.marks

-- the answer that a sweep's counts are
abbrev pub counts_of : SweptHosts → Answer
counts_of n = answer.Swept n.returned n.ejected n.kept

-- the answer to an event that has no cause of refusal
abbrev pub answer_to : Setting → Past → Event → Answer
answer_to S past Opened = answer.Opened (openings past.steps)
answer_to S past (Arrived conn request) =
    accepts (accepted_count conn past.steps) (local_of (plan_for request)) (parts_by S past (Arrived conn request))
answer_to S past (Finished conn) = answer.Finishing
answer_to S past (Taken host) =
    let e = epoch host past.steps in answer.Sent e (length (sent_to host e past)) (text_of_first (waiting_parts host past))
answer_to S past (Answered host e value t) = answer.Matched (trip_of S past (mark_by past (Answered host e value t)))
answer_to S past (Failed host e kind t) =
    answer.Lost (length (waiting_parts host past) + flying_count host past) (trip_of S past (mark_by past (Failed host e kind t)))
answer_to S past (Swept t) = counts_of (sweep_answer S.rules S.opening (Sweep t) past.marks)
answer_to S past (Handed conn) = answer.Bytes (text (unwrap_or (outcome conn (handed_count conn past.steps) past) null_bulk))
answer_to S past (Closed conn) = answer.Closed
