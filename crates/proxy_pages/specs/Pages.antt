-- The pages, as functions of what they tell.
use Rattle.std.specs.Prelude.{ℕ, ◌+◌, ◌-◌, ◌/◌, min, Bool, Option, Some, None, List, [], ◌∷◌, ◌++◌, codes, decimal, map, length, get_or, slice_index, if◌then◌else◌}
use Rattle.std.specs.List.{concat, range_with_len}
use Rattle.proxy_histogram.specs.declared.histogram.Histogram.{Histogram}
use Rattle.proxy_histogram.specs.declared.histogram.TheConstants.{BOUNDS_US}
use Rattle.proxy_histogram.specs.HostDurations.{durations_at}
use Rattle.proxy_config.specs.declared.config.Host.{Host}
use Rattle.proxy_stats.specs.declared.tally.Counts.{Counts}
use Rattle.proxy_stats.specs.declared.refused_names.RefusedName.{RefusedName}
use Rattle.proxy_stats.specs.declared.refused_names.RefusedNames.{RefusedNames}
use Rattle.proxy_stats.specs.RefusedNames.{is_free, shown_name}
use Rattle.proxy_serve_core.specs.FaultLog.{faults_at, of_cause}
use Rattle.proxy_serve_core.specs.declared.ejection_log.EjectedHost.{EjectedHost}
use Rattle.proxy_serve_core.specs.declared.ejection_log.EjectionReason.{EjectionReason}
use Rattle.proxy_serve_core.specs.declared.fault_log.FaultCause.{FaultCause}
use Rattle.proxy_serve_core.specs.declared.fault_log.HostFaults.{HostFaults}
use Rattle.proxy_serve_core.specs.declared.refused_sockets.RefusedSockets.{RefusedSockets}
use Rattle.proxy_pages.specs.declared.metric.Kind.{Kind}
use Rattle.proxy_pages.specs.declared.metric.Kind.TheVariants.{Counter, Gauge, Histogram as HistogramKind}
use Rattle.proxy_pages.specs.declared.metric.Numbers.{Numbers}
use Rattle.proxy_pages.specs.declared.metric.Numbers.TheVariants.{Build, One, ByAnswer, ByCause, ByName, ByHost, ByHostFault, Out as ByOut, ByJournal, Durations, Cpu, ByRefusal, HostDurations, Returns, ByPeer}
use Rattle.proxy_pages.specs.declared.metric.Way.{Way}
use Rattle.proxy_pages.specs.declared.metric.HostNumber.{HostNumber}
use Rattle.proxy_pages.specs.declared.metric.HostNumber.TheVariants.{Sent, Answered, Faults, Lost, Waiting, Flying, Out}
use Rattle.proxy_pages.specs.declared.snapshot.About.{About}
use Rattle.proxy_pages.specs.declared.snapshot.Snapshot.{Snapshot}
use Rattle.proxy_pages.specs.Lines.{plain_text, labelled_text, command_text, host_text, fault_text, line_text, build_text, bound_text, last_bound_text, host_bound_text, last_host_bound_text, host_sum_text, host_count_text, seconds_text}
use Rattle.proxy_pages.specs.Table.{Row, metrics}
use Rattle.proxy_pages.specs.Numbers.{number_of, host_number, journal_number, load_at, moved_number, bit, is_out_in, lines_shown}

-- the texts for 0, 1 and so on, so many, one behind the other
abbrev pub each : ℕ → (ℕ → List ℕ) → List ℕ
each n text = concat (map text (range_with_len 0 n))

-- how many hosts are told of
abbrev pub host_count : About → ℕ
host_count about = min (length about.hosts.now) 64

-- the name of a host
abbrev pub host_name : About → ℕ → List ℕ
host_name about i = get_or (map (λ (h : Host). h.name) about.hosts.now) i []

-- METRICS

-- the word for a type of metrics
abbrev pub kind_word : Kind → List ℕ
kind_word Counter = codes "counter"
kind_word Gauge = codes "gauge"
kind_word HistogramKind = codes "histogram"

-- what the metric tells, and its type
abbrev pub head_text : Row → List ℕ
head_text m =
    concat (codes "# HELP " ∷ m.name ∷ codes " " ∷ m.help ∷ codes "\n# TYPE " ∷ m.name ∷ codes " " ∷ kind_word m.kind ∷ codes "\n" ∷ [])

-- the word for an answer of the proxy's own
abbrev pub answer_word : ℕ → List ℕ
answer_word i =
    get_or (codes "ping" ∷ codes "echo" ∷ codes "quit" ∷ codes "invalid_request" ∷ codes "unsupported_command"
    ∷ codes "wrong_number" ∷ codes "protocol_error" ∷ []) i []

-- what the proxy answered itself, by the kind of the answer
abbrev pub answers_text : List ℕ → Counts → List ℕ
answers_text name c = each 7 (λ i. labelled_text name (codes "kind") (answer_word i) (slice_index c.local i))

-- how often a refused command came; nothing for a free place
abbrev pub refused_name_text : List ℕ → RefusedName → List ℕ
refused_name_text name p = if is_free p then [] else command_text name (shown_name p) p.count

-- how often refused commands came: those whose names have a place, and the rest
abbrev pub refused_names_text : List ℕ → RefusedNames → List ℕ
refused_names_text name r = concat (map (refused_name_text name) r.places) ++ command_text name (codes "(others)") r.others

-- parts that got an error of the proxy's own, by its cause
abbrev pub causes_text : List ℕ → Counts → List ℕ
causes_text name c =
    labelled_text name (codes "cause") (codes "upstream_failure") c.lost
    ++ labelled_text name (codes "cause") (codes "no_upstream_host") c.no_host
    ++ labelled_text name (codes "cause") (codes "proxy_busy") c.busy

-- sockets of clients that found no room, by the cause
abbrev pub refusals_text : List ℕ → RefusedSockets → List ℕ
refusals_text name refused =
    labelled_text name (codes "cause") (codes "full") refused.full.count
    ++ labelled_text name (codes "cause") (codes "no_file_number") refused.no_file.count
    ++ labelled_text name (codes "cause") (codes "no_memory") refused.no_memory.count

-- a number of each host
abbrev pub host_numbers_text : About → Snapshot → List ℕ → HostNumber → List ℕ
host_numbers_text about s name number =
    each (host_count about) (λ i. host_text name (host_name about i) (host_number s number i))

-- the word for a cause of faults
abbrev pub fault_word : FaultCause → List ℕ
fault_word FaultCause.Refused = codes "refused"
fault_word FaultCause.Closed = codes "closed"
fault_word FaultCause.Late = codes "late"
fault_word FaultCause.Garbled = codes "garbled"
fault_word FaultCause.TooLong = codes "too_long"
fault_word FaultCause.GivenUp = codes "given_up"

-- the causes, in their order
abbrev pub causes : List FaultCause
causes = FaultCause.Refused ∷ FaultCause.Closed ∷ FaultCause.Late ∷ FaultCause.Garbled ∷ FaultCause.TooLong ∷ FaultCause.GivenUp ∷ []

-- a host's faults, by their cause
abbrev pub host_faults_text : List ℕ → List ℕ → HostFaults → List ℕ
host_faults_text name host faults =
    concat (map (λ cause. fault_text name host (fault_word cause) (of_cause cause faults).count) causes)

-- each host's faults
abbrev pub faults_text : About → Snapshot → List ℕ → List ℕ
faults_text about s name = each (host_count about) (λ i. host_faults_text name (host_name about i) (faults_at s.faults i))

-- whether a host is put aside in each line of generations
abbrev pub lines_out_text : List ℕ → List ℕ → Snapshot → ℕ → List ℕ
lines_out_text name host s h = each (lines_shown s) (λ line. line_text name host line (bit (is_out_in s line h)))

-- whether a host is put aside: in some line, and in each
abbrev pub host_outs_text : List ℕ → List ℕ → Snapshot → ℕ → List ℕ
host_outs_text name host s h = host_text name host (host_number s Out h) ++ lines_out_text name host s h

-- whether each host is put aside
abbrev pub outs_text : About → Snapshot → List ℕ → List ℕ
outs_text about s name = each (host_count about) (λ i. host_outs_text name (host_name about i) s i)

-- the word for the reason of an ejection
abbrev pub reason_word : EjectionReason → List ℕ
reason_word EjectionReason.Streak = codes "failures_in_a_row"
reason_word EjectionReason.Rate = codes "share_of_failures"

-- the seconds until a host may return, where it is put aside
abbrev pub return_text : List ℕ → List ℕ → ℕ → Option EjectedHost → List ℕ
return_text name host now None = []
return_text name host now (Some ejected) = fault_text name host (reason_word ejected.reason) ((ejected.until - now + 999) / 1000)

-- the same of each host that is
abbrev pub returns_text : About → Snapshot → List ℕ → List ℕ
returns_text about s name = each (host_count about) (λ i. return_text name (host_name about i) s.ejected.moment (get_or s.ejected.hosts i None))

-- the bytes that went this way, at sockets of clients and at links to hosts
abbrev pub peers_text : List ℕ → Snapshot → Way → List ℕ
peers_text name s way =
    labelled_text name (codes "peer") (codes "clients") (moved_number way s.moved.clients)
    ++ labelled_text name (codes "peer") (codes "hosts") (moved_number way s.moved.hosts)

-- how many values were at most each bound
abbrev pub bounds_text : List ℕ → Histogram → List ℕ
bounds_text name h = each 18 (λ i. bound_text name (slice_index BOUNDS_US i) (slice_index h.at_most i))

-- the sum of the values, in seconds
abbrev pub sum_text : List ℕ → Histogram → List ℕ
sum_text name h = concat (name ∷ codes "_sum " ∷ []) ++ seconds_text h.sum_us ++ concat (codes "\n" ∷ [])

-- microseconds of processor time, in seconds
abbrev pub cpu_text : List ℕ → ℕ → List ℕ
cpu_text name us = concat (name ∷ codes " " ∷ []) ++ seconds_text us ++ concat (codes "\n" ∷ [])

-- a histogram
abbrev pub durations_text : List ℕ → Histogram → List ℕ
durations_text name h =
    bounds_text name h
    ++ last_bound_text name h.total
    ++ sum_text name h
    ++ plain_text name (codes "_count") h.total

-- how many values of a host were at most each bound
abbrev pub host_bounds_text : List ℕ → List ℕ → Histogram → List ℕ
host_bounds_text name host h = each 18 (λ i. host_bound_text name host (slice_index BOUNDS_US i) (slice_index h.at_most i))

-- the histogram of a host
abbrev pub host_histogram_text : List ℕ → List ℕ → Histogram → List ℕ
host_histogram_text name host h =
    host_bounds_text name host h
    ++ last_host_bound_text name host h.total
    ++ host_sum_text name host h.sum_us
    ++ host_count_text name host h.total

-- each host's histogram
abbrev pub host_durations_text : About → Snapshot → List ℕ → List ℕ
host_durations_text about s name =
    each (host_count about) (λ i. host_histogram_text name (host_name about i) (durations_at s.host_durations i))

-- the numbers of a kind, under a name
abbrev pub numbers_by : About → Snapshot → List ℕ → Numbers → List ℕ
numbers_by about s name Build = build_text name about.version.now about.kit.now
numbers_by about s name (One number) = plain_text name [] (number_of s number)
numbers_by about s name ByAnswer = answers_text name s.counts
numbers_by about s name ByName = refused_names_text name s.refused_names
numbers_by about s name ByCause = causes_text name s.counts
numbers_by about s name ByRefusal = refusals_text name s.refused
numbers_by about s name (ByHost number) = host_numbers_text about s name number
numbers_by about s name ByHostFault = faults_text about s name
numbers_by about s name ByOut = outs_text about s name
numbers_by about s name (ByJournal number) =
    labelled_text name (codes "journal") (codes "serving") (journal_number number s.serving)
    ++ labelled_text name (codes "journal") (codes "draining") (journal_number number s.draining)
numbers_by about s name Returns = returns_text about s name
numbers_by about s name (ByPeer way) = peers_text name s way
numbers_by about s name Durations = durations_text name s.durations
numbers_by about s name Cpu = cpu_text name s.process.cpu_us
numbers_by about s name HostDurations = host_durations_text about s name

-- the numbers of a metric
abbrev pub numbers_text : About → Snapshot → Row → List ℕ
numbers_text about s m = numbers_by about s m.name m.numbers

-- a metric with its numbers
abbrev pub metric_text : About → Snapshot → Row → List ℕ
metric_text about s m = head_text m ++ numbers_text about s m

-- the page of numbers: each metric of the table
abbrev pub metrics_text : About → Snapshot → List ℕ
metrics_text about s = concat (map (metric_text about s) metrics)

-- HOSTS

-- whether a host is put aside
abbrev pub state_word : Bool → List ℕ
state_word is_out = if is_out then codes "out" else codes "in"

-- the line of a host
abbrev pub host_line : About → Snapshot → ℕ → List ℕ
host_line about s i =
    let number = λ (n : HostNumber). decimal (host_number s n i) in
    host_name about i
    ++ concat (codes " " ∷ state_word (load_at s.serving i).is_out
    ∷ codes " waiting " ∷ number Waiting ∷ codes " flying " ∷ number Flying
    ∷ codes " sent " ∷ number Sent ∷ codes " answered " ∷ number Answered
    ∷ codes " faults " ∷ number Faults ∷ codes " lost " ∷ number Lost ∷ codes "\n" ∷ [])

-- the state of a host in a line of generations
abbrev pub host_in_line : List ℕ → ℕ → Bool → List ℕ
host_in_line name line is_out = name ++ concat (codes " line " ∷ decimal line ∷ codes " " ∷ state_word is_out ∷ codes "\n" ∷ [])

-- the state of a host in each line of generations
abbrev pub host_in_lines : List ℕ → Snapshot → ℕ → List ℕ
host_in_lines name s i = each (lines_shown s) (λ line. host_in_line name line (is_out_in s line i))

-- what is told of a host
abbrev pub host_lines : About → Snapshot → ℕ → List ℕ
host_lines about s i = host_line about s i ++ host_in_lines (host_name about i) s i

-- the page of hosts
abbrev pub hosts_text : About → Snapshot → List ℕ
hosts_text about s = each (host_count about) (host_lines about s)
