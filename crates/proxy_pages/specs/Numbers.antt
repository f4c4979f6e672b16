-- Which number of a snapshot each metric tells.
use Rattle.std.specs.Prelude.{ℕ, ◌+◌, ◌-◌, ◌^◌, min, ◌==◌, Bool, false, [], if◌then◌else◌, get_or}
use Rattle.proxy_stats.specs.declared.tally.HostCounts.{HostCounts}
use Rattle.proxy_stats.specs.declared.load.HostLoad.{HostLoad}
use Rattle.proxy_pages.specs.declared.metric.Number.{Number}
use Rattle.proxy_pages.specs.declared.metric.Number.TheVariants.{Accepted, Handed, Ejections, Kept, Panic, Connections, Closed, Generations, Draining, Turns, Ready, Ending, Resident, Files, Began, Idle}
use Rattle.proxy_pages.specs.declared.metric.HostNumber.{HostNumber}
use Rattle.proxy_pages.specs.declared.metric.HostNumber.TheVariants.{Sent, Answered, Faults, Lost, Waiting, Flying, Out}
use Rattle.proxy_pages.specs.declared.metric.JournalNumber.{JournalNumber}
use Rattle.proxy_pages.specs.declared.metric.JournalNumber.TheVariants.{Steps, Bytes}
use Rattle.proxy_pages.specs.declared.metric.Way.{Way}
use Rattle.proxy_pages.specs.declared.metric.Way.TheVariants.{Read, Written}
use Rattle.proxy_pages.specs.declared.snapshot.Look.{Look}
use Rattle.proxy_pages.specs.declared.snapshot.Moved.{Moved}
use Rattle.proxy_pages.specs.declared.snapshot.Snapshot.{Snapshot}

-- the number, or the greatest `u64` where it is more
abbrev pub capped : ℕ → ℕ
capped n = min n (2 ^ 64 - 1)

-- yes and no as numbers
abbrev pub bit : Bool → ℕ
bit b = if b then 1 else 0

-- the number of a metric with no label
abbrev pub number_of : Snapshot → Number → ℕ
number_of s Accepted = s.counts.accepted
number_of s Handed = s.counts.handed
number_of s Ejections = s.counts.ejections
number_of s Kept = s.counts.kept
number_of s Panic = bit s.serving.load.in_panic
number_of s Connections = s.connections
number_of s Closed = s.closed
number_of s Idle = s.idle_closed
number_of s Generations = s.generations
number_of s Draining = s.draining_count
number_of s Turns = capped (capped (s.past_steps + s.serving.steps) + s.draining.steps)
number_of s Ready = bit s.is_ready
number_of s Ending = bit s.is_ending
number_of s Resident = s.process.resident
number_of s Files = s.process.files
number_of s Began = s.process.began

-- what was counted of a host
abbrev pub counts_at : Snapshot → ℕ → HostCounts
counts_at s h = get_or s.counts.hosts h (record { sent = 0; answered = 0; faults = 0; lost = 0 })

-- what is due of a host in the journal of a look
abbrev pub load_at : Look → ℕ → HostLoad
load_at look h = get_or look.load.hosts h (record { waiting = 0; flying = 0; is_out = false })

-- the number of a host
abbrev pub host_number : Snapshot → HostNumber → ℕ → ℕ
host_number s Sent h = (counts_at s h).sent
host_number s Answered h = (counts_at s h).answered
host_number s Faults h = (counts_at s h).faults
host_number s Lost h = (counts_at s h).lost
host_number s Waiting h = capped ((load_at s.serving h).waiting + (load_at s.draining h).waiting)
host_number s Flying h = capped ((load_at s.serving h).flying + (load_at s.draining h).flying)
host_number s Out h = bit (load_at s.serving h).is_out

-- the number of a journal
abbrev pub journal_number : JournalNumber → Look → ℕ
journal_number Steps look = look.steps
journal_number Bytes look = look.bytes

-- the bytes that went this way
abbrev pub moved_number : Way → Moved → ℕ
moved_number Read moved = moved.read
moved_number Written moved = moved.written

-- how many lines of generations are told of one by one: none where there is a single one
abbrev pub lines_shown : Snapshot → ℕ
lines_shown s = if s.lines == 1 then 0 else min s.lines 64

-- whether a line has a host out
abbrev pub is_out_in : Snapshot → ℕ → ℕ → Bool
is_out_in s line h = get_or (get_or s.line_hosts line (record { are_out = [] })).are_out h false
