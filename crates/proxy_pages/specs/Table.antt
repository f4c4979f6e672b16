-- The table of metrics: name, type, what it tells, and its numbers.
use Rattle.std.specs.Prelude.{ℕ, List, [], ◌∷◌, codes}
use Rattle.proxy_pages.specs.declared.metric.Kind.{Kind}
use Rattle.proxy_pages.specs.declared.metric.Kind.TheVariants.{Counter, Gauge, Histogram as HistogramKind}
use Rattle.proxy_pages.specs.declared.metric.Numbers.{Numbers}
use Rattle.proxy_pages.specs.declared.metric.Numbers.TheVariants.{Build, One, ByAnswer, ByCause, ByName, ByHost, ByHostFault, Out, ByJournal, Durations, Cpu, ByRefusal, HostDurations, Returns, ByPeer}
use Rattle.proxy_pages.specs.declared.metric.Number.TheVariants as number
use Rattle.proxy_pages.specs.declared.metric.Way.TheVariants as way
use Rattle.proxy_pages.specs.declared.metric.HostNumber.TheVariants as host
use Rattle.proxy_pages.specs.declared.metric.JournalNumber.TheVariants as journal
use Rattle.proxy_pages.specs.declared.metric.Metric.{Metric}

-- a metric
pub record Row : Type 0 where
  pub name : List ℕ
  pub kind : Kind
  pub help : List ℕ
  pub numbers : Numbers

-- the row of a name, a type, a help text and the numbers that it tells
abbrev pub row : List ℕ → Kind → List ℕ → Numbers → Row
row name kind help numbers = record { name = name; kind = kind; help = help; numbers = numbers }

-- the row that a metric of the code is
abbrev pub row_of : Metric → Row
row_of m = row m.name.now m.kind m.help.now m.numbers

-- all metrics, in the order of the page
abbrev pub metrics : List Row
metrics =
    row (codes "redproxy_build_info") Gauge (codes "The version that runs, and the kit that proved it.") Build
    ∷ row (codes "redproxy_commands_accepted_total") Counter (codes "Commands of clients that were accepted.") (One number.Accepted)
    ∷ row (codes "redproxy_replies_handed_total") Counter (codes "Replies that were handed out to clients.") (One number.Handed)
    ∷ row (codes "redproxy_command_duration_seconds") HistogramKind (codes "Time from the acceptance of a command to its answer.") Durations
    ∷ row (codes "redproxy_local_replies_total") Counter (codes "Commands that the proxy answered itself, by the kind of the answer.") ByAnswer
    ∷ row (codes "redproxy_refused_commands_total") Counter (codes "Commands that were refused as unsupported, by their name.") ByName
    ∷ row (codes "redproxy_part_errors_total") Counter (codes "Parts of commands that got an error of the proxy's own, by its cause.") ByCause
    ∷ row (codes "redproxy_host_parts_sent_total") Counter (codes "Parts of commands that were sent to the host.") (ByHost host.Sent)
    ∷ row (codes "redproxy_host_replies_total") Counter (codes "Replies of the host.") (ByHost host.Answered)
    ∷ row (codes "redproxy_host_duration_seconds") HistogramKind (codes "Time from the sending of a part to the host to its reply.") HostDurations
    ∷ row (codes "redproxy_host_faults_total") Counter (codes "Faults of the host's link, by their cause.") ByHostFault
    ∷ row (codes "redproxy_host_parts_lost_total") Counter (codes "Parts that waited for the host or were sent to it at a fault.") (ByHost host.Lost)
    ∷ row (codes "redproxy_host_parts_waiting") Gauge (codes "Parts of commands that wait to be sent to the host.") (ByHost host.Waiting)
    ∷ row (codes "redproxy_host_parts_flying") Gauge (codes "Parts of commands that were sent to the host and have no reply.") (ByHost host.Flying)
    ∷ row (codes "redproxy_host_out") Gauge (codes "Whether the host is put aside.") Out
    ∷ row (codes "redproxy_host_return_seconds") Gauge (codes "Seconds until a host that is put aside may return, by the reason for which it is.") Returns
    ∷ row (codes "redproxy_ejections_total") Counter (codes "How often a host was put aside.") (One number.Ejections)
    ∷ row (codes "redproxy_ejections_withheld_total") Counter (codes "How often a host tripped and stayed, since enough others were put aside.") (One number.Kept)
    ∷ row (codes "redproxy_panic") Gauge (codes "Whether so few hosts are available that all are used.") (One number.Panic)
    ∷ row (codes "redproxy_client_connections") Gauge (codes "Sockets of clients that are open.") (One number.Connections)
    ∷ row (codes "redproxy_client_connections_closed_total") Counter (codes "Connections of clients that were closed.") (One number.Closed)
    ∷ row (codes "redproxy_idle_closed_total") Counter (codes "Connections that were ended since their clients were idle.") (One number.Idle)
    ∷ row (codes "redproxy_clients_refused_total") Counter (codes "Sockets of clients that found no room, by the cause.") ByRefusal
    ∷ row (codes "redproxy_read_bytes_total") Counter (codes "Bytes read from sockets of clients, and from links to hosts.") (ByPeer way.Read)
    ∷ row (codes "redproxy_written_bytes_total") Counter (codes "Bytes written to sockets of clients, and to links to hosts.") (ByPeer way.Written)
    ∷ row (codes "redproxy_generations_total") Counter (codes "Generations that were opened.") (One number.Generations)
    ∷ row (codes "redproxy_generations_draining") Gauge (codes "Generations that take in nothing more and have connections.") (One number.Draining)
    ∷ row (codes "redproxy_turns_total") Counter (codes "Turns of the core that were answered.") (One number.Turns)
    ∷ row (codes "redproxy_journal_steps") Gauge (codes "Steps of a journal, which takes 262144.") (ByJournal journal.Steps)
    ∷ row (codes "redproxy_journal_payload_bytes") Gauge (codes "Bytes of payload in a journal, which takes 67108864.") (ByJournal journal.Bytes)
    ∷ row (codes "redproxy_ready") Gauge (codes "Whether new connections are taken.") (One number.Ready)
    ∷ row (codes "redproxy_ending") Gauge (codes "Whether the proxy was ordered to end.") (One number.Ending)
    ∷ row (codes "process_resident_memory_bytes") Gauge (codes "Memory of the process in the machine.") (One number.Resident)
    ∷ row (codes "process_cpu_seconds_total") Counter (codes "Processor time of the process.") Cpu
    ∷ row (codes "process_open_fds") Gauge (codes "Open files and sockets of the process.") (One number.Files)
    ∷ row (codes "process_start_time_seconds") Gauge (codes "When the process began, in seconds since 1970.") (One number.Began)
    ∷ []
