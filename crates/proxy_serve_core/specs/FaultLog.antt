-- The faults of hosts, by their cause, and when a line of them is due.
use Rattle.std.specs.Prelude.{◌+◌, ◌-◌, ◌^◌, min, nat_lt, not, ℕ, Bool, true, if◌then◌else◌, List, get_or, Option, Some, None}
use Rattle.limits.specs.declared.workers.TheConstants.{TELL_MS}
use Rattle.proxy_serve_core.specs.declared.fault_log.FaultCause.{FaultCause}
use Rattle.proxy_serve_core.specs.declared.fault_log.CauseFaults.{CauseFaults}
use Rattle.proxy_serve_core.specs.declared.fault_log.HostFaults.{HostFaults}

-- faults with one more, without a line
abbrev pub counted : CauseFaults → CauseFaults
counted faults = record faults { count = min (faults.count + 1) (2 ^ 64 - 1) }

-- faults with one more, by which so many parts were lost
abbrev pub with_lost : ℕ → CauseFaults → CauseFaults
with_lost lost faults = record (counted faults) { untold = min (faults.untold + lost) (2 ^ 64 - 1) }

-- the last line was logged so long ago, or none was
abbrev pub is_due : Option ℕ → ℕ → Bool
is_due None now = true
is_due (Some logged_at) now = not (nat_lt (now - logged_at) TELL_MS)

-- the parts that a line of the faults tells now, if one is due
abbrev pub line_of : ℕ → CauseFaults → Option ℕ
line_of now faults = if is_due faults.logged_at now then Some faults.untold else None

-- the faults once that line was logged, if one is due
abbrev pub logged : ℕ → CauseFaults → CauseFaults
logged now faults = if is_due faults.logged_at now then record faults { untold = 0; logged_at = Some now } else faults

-- there was no fault
abbrev pub no_faults : HostFaults
no_faults = record { refused = none; closed = none; late = none; garbled = none; too_long = none; given_up = none }
  where
    none : CauseFaults
    none = record { count = 0; untold = 0; logged_at = None }

-- the faults of the host with this number
abbrev pub faults_at : List HostFaults → ℕ → HostFaults
faults_at hosts host = get_or hosts host no_faults

-- a host's faults of a cause
abbrev pub of_cause : FaultCause → HostFaults → CauseFaults
of_cause FaultCause.Refused faults = faults.refused
of_cause FaultCause.Closed faults = faults.closed
of_cause FaultCause.Late faults = faults.late
of_cause FaultCause.Garbled faults = faults.garbled
of_cause FaultCause.TooLong faults = faults.too_long
of_cause FaultCause.GivenUp faults = faults.given_up

-- the same with others of that cause
abbrev pub with_cause : FaultCause → CauseFaults → HostFaults → HostFaults
with_cause FaultCause.Refused new faults = record faults { refused = new }
with_cause FaultCause.Closed new faults = record faults { closed = new }
with_cause FaultCause.Late new faults = record faults { late = new }
with_cause FaultCause.Garbled new faults = record faults { garbled = new }
with_cause FaultCause.TooLong new faults = record faults { too_long = new }
with_cause FaultCause.GivenUp new faults = record faults { given_up = new }
