-- Which faults of hosts' links are told, and under which cause.
use Rattle.std.specs.Prelude.{Bool, true, false, if◌then◌else◌, Option, Some, None}
use Rattle.proxy_engines.specs.declared.link_fault.LinkFault.{LinkFault}
use Rattle.proxy_serve_core.specs.declared.fault_log.FaultCause.{FaultCause}
use Rattle.proxy_connections.specs.declared.host_fault.HostFault.{HostFault}

-- what is told of a fault: nothing where a link ended on which nothing was asked
abbrev pub fault_told : LinkFault → Bool → Bool → Option HostFault
fault_told LinkFault.Refused is_asked gives_up = Some HostFault.Refused
fault_told LinkFault.Late is_asked gives_up = Some HostFault.Late
fault_told LinkFault.Garbled is_asked gives_up = Some HostFault.Garbled
fault_told (LinkFault.TooLong limit) is_asked gives_up = Some (HostFault.TooLong limit)
fault_told LinkFault.Closed is_asked gives_up = if is_asked then Some HostFault.Closed else None
fault_told LinkFault.GivenUp is_asked gives_up =
    if is_asked then Some (if gives_up then HostFault.GivenUp else HostFault.NoRoom) else None

-- the cause under which a fault is counted
abbrev pub cause_of : HostFault → FaultCause
cause_of HostFault.Refused = FaultCause.Refused
cause_of HostFault.Closed = FaultCause.Closed
cause_of HostFault.Late = FaultCause.Late
cause_of HostFault.Garbled = FaultCause.Garbled
cause_of (HostFault.TooLong limit) = FaultCause.TooLong
cause_of HostFault.NoRoom = FaultCause.GivenUp
cause_of HostFault.GivenUp = FaultCause.GivenUp
