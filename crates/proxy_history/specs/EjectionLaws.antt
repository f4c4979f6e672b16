-- What ejections leave as it is.
use Rattle.std.specs.Prelude.{◌≡◌, ℕ, List, map, None}
use Rattle.ejector.specs.declared.mark.Mark.{Mark}
use Rattle.ejector.specs.declared.answer.Trip.TheVariants as trips
use Rattle.proxy_history.specs.Setting.{Setting}
use Rattle.proxy_history.specs.Part.{Part, Past}
use Rattle.proxy_history.specs.Waiting.{sent_by}
use Rattle.proxy_history.specs.Arrival.{usable_flags, parts_by}
use Rattle.proxy_history.specs.Outcome.{outcome}
use Rattle.proxy_history.specs.Cause.{own_cause}
use Rattle.proxy_history.specs.Answer.{answer_to}
use Rattle.proxy_history.specs.declared.event.Event.{Event}
use Rattle.proxy_history.specs.declared.answer.Answer.{Answer}
use Rattle.proxy_history.specs.declared.answer.Answer.TheVariants as answer

-- a part without what it gets by its host
abbrev pub without_host : Part → Part
without_host p = record p { host = None; epoch = 0; local = None }

-- an answer without what it tells of hosts that went out or came back
abbrev pub without_trips : Answer → Answer
without_trips (answer.Matched trip) = answer.Matched trips.None
without_trips (answer.Lost parts trip) = answer.Lost parts trips.None
without_trips (answer.Swept returned ejected kept) = answer.Swept 0 0 0
without_trips other = other

-- an answer without the number of parts that found no host, or a busy one
abbrev pub without_hosts : Answer → Answer
without_hosts (answer.Accepted index local parts no_host busy) =
    answer.Accepted index local parts 0 0
without_hosts other = other

-- What the marks of a past don't touch: why an event is refused, what is sent, each outcome, of the parts of an arrival all
-- but their hosts, and of an answer all but its trips and what an arrival tells of hosts. Where the same hosts are usable,
-- the parts of an arrival are the same too, and so is the answer to it.
pub record IsLeftAlone (S : Setting) (x y : Past) (event : Event) : Type 0 where
  pub same_cause : own_cause S y event ≡ own_cause S x event
  pub same_sent : sent_by y event ≡ sent_by x event
  pub same_outcomes : (c i : ℕ) → outcome c i y ≡ outcome c i x
  pub same_but_hosts : map without_host (parts_by S y event)
      ≡ map without_host (parts_by S x event)
  pub same_answer : without_hosts (without_trips (answer_to S y event))
      ≡ without_hosts (without_trips (answer_to S x event))
  pub same_parts : usable_flags S y ≡ usable_flags S x → parts_by S y event ≡ parts_by S x event
  pub same_arrival : usable_flags S y ≡ usable_flags S x
      → without_trips (answer_to S y event) ≡ without_trips (answer_to S x event)

-- Ejections choose hosts and do nothing else: whatever outlier detection was told, these are left alone.
abbrev pub EjectionsChooseHostsAlone : Type 0
EjectionsChooseHostsAlone = (S : Setting) (x : Past) (marks : List Mark) (event : Event)
    → IsLeftAlone S x (record x { marks = marks }) event
