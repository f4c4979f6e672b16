-- How much each count has of one step.
use Rattle.std.specs.Prelude.{ℕ, ◌==◌, Bool, false, if◌then◌else◌, Option, Some, None}
use Rattle.ejector.specs.declared.answer.Trip.{Trip}
use Rattle.ejector.specs.declared.answer.Trip.TheVariants as trips
use Rattle.splitter.specs.declared.plans.Local.{Local}
use Rattle.splitter.specs.declared.plans.Local.TheVariants.{Pong, Echoed, Bye, Invalid, Unsupported, WrongNumber, Broken}
use Rattle.proxy_history.specs.History.{Step}
use Rattle.proxy_history.specs.declared.event.Event.{Event}
use Rattle.proxy_history.specs.declared.event.Event.TheVariants.{Arrived, Taken, Answered, Failed, Handed}
use Rattle.proxy_history.specs.declared.answer.Answer.{Answer}
use Rattle.proxy_history.specs.declared.answer.Answer.TheVariants.{Accepted, Matched, Lost, Swept}

-- ---- by the event

-- 1 if a command was accepted
abbrev pub arrivals_in : Event → ℕ
arrivals_in (Arrived conn request) = 1
arrivals_in _ = 0

-- 1 if a reply was handed out
abbrev pub handings_in : Event → ℕ
handings_in (Handed conn) = 1
handings_in _ = 0

-- 1 if a part was taken to be sent
abbrev pub takings_in : Event → ℕ
takings_in (Taken host) = 1
takings_in _ = 0

-- 1 if a host's reply was taken
abbrev pub replies_in : Event → ℕ
replies_in (Answered host epoch value t) = 1
replies_in _ = 0

-- 1 if a host had a fault
abbrev pub failures_in : Event → ℕ
failures_in (Failed host epoch kind t) = 1
failures_in _ = 0

-- whether the event is a part taken, a reply or a fault of the host
abbrev pub is_event_of : ℕ → Event → Bool
is_event_of h (Taken host) = host == h
is_event_of h (Answered host epoch value t) = host == h
is_event_of h (Failed host epoch kind t) = host == h
is_event_of h _ = false

-- ---- by the answer

-- the parts that waited or flew at a fault
abbrev pub lost_in : Answer → ℕ
lost_in (Lost parts trip) = parts
lost_in _ = 0

-- 1 if the host was ejected
abbrev pub ejected_by : Trip → ℕ
ejected_by trips.Ejected = 1
ejected_by _ = 0

-- 1 if it tripped and stayed
abbrev pub kept_by : Trip → ℕ
kept_by trips.Kept = 1
kept_by _ = 0

-- how many hosts were ejected
abbrev pub ejected_in : Answer → ℕ
ejected_in (Matched trip) = ejected_by trip
ejected_in (Lost parts trip) = ejected_by trip
ejected_in (Swept returned ejected kept) = ejected
ejected_in _ = 0

-- how many hosts tripped and stayed
abbrev pub kept_in : Answer → ℕ
kept_in (Matched trip) = kept_by trip
kept_in (Lost parts trip) = kept_by trip
kept_in (Swept returned ejected kept) = kept
kept_in _ = 0

-- the parts that found no usable host
abbrev pub hostless_in : Answer → ℕ
hostless_in (Accepted index local parts no_host busy) = no_host
hostless_in _ = 0

-- the parts that found too many others waiting
abbrev pub busy_in : Answer → ℕ
busy_in (Accepted index local parts no_host busy) = busy
busy_in _ = 0

-- in which place an answer of the proxy's own is counted
abbrev pub local_place : Local → ℕ
local_place Pong = 0
local_place Echoed = 1
local_place Bye = 2
local_place Invalid = 3
local_place Unsupported = 4
local_place WrongNumber = 5
local_place Broken = 6

-- whether the proxy gave the answer of this place itself
abbrev pub is_local : ℕ → Option Local → Bool
is_local place None = false
is_local place (Some local) = local_place local == place

-- 1 for the answer of the proxy's own that has this place, else 0
abbrev pub local_in : ℕ → Answer → ℕ
local_in place (Accepted index local parts no_host busy) = if is_local place local then 1 else 0
local_in place _ = 0

-- ---- of a step

-- 1 for a request that was accepted, else 0
abbrev pub arrivals : Step → ℕ
arrivals s = arrivals_in s.event

-- 1 for a reply that was handed out, else 0
abbrev pub handings : Step → ℕ
handings s = handings_in s.event

-- 1 for a part that was taken to be sent, else 0
abbrev pub takings : Step → ℕ
takings s = takings_in s.event

-- 1 for a reply that was taken, else 0
abbrev pub replies : Step → ℕ
replies s = replies_in s.event

-- 1 for a fault, else 0
abbrev pub failures : Step → ℕ
failures s = failures_in s.event

-- how many parts a fault lost
abbrev pub lost_parts : Step → ℕ
lost_parts s = lost_in s.answer

-- how many hosts a step put aside
abbrev pub ejected_hosts : Step → ℕ
ejected_hosts s = ejected_in s.answer

-- how many hosts tripped in a step and stayed
abbrev pub kept_hosts : Step → ℕ
kept_hosts s = kept_in s.answer

-- how many parts found no host
abbrev pub hostless_parts : Step → ℕ
hostless_parts s = hostless_in s.answer

-- how many parts found too many others waiting
abbrev pub busy_parts : Step → ℕ
busy_parts s = busy_in s.answer

-- 1 if the proxy gave the answer of this place itself
abbrev pub own_answers : ℕ → Step → ℕ
own_answers place s = local_in place s.answer

-- what a count has of the step, if that is one of the host
abbrev pub of_host : ℕ → (Step → ℕ) → Step → ℕ
of_host h amount s = if is_event_of h s.event then amount s else 0
