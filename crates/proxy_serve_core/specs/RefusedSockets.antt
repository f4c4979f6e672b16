-- The sockets of clients that found no room, by cause.
use Rattle.proxy_serve_core.specs.declared.fault_log.CauseFaults.{CauseFaults}
use Rattle.proxy_serve_core.specs.declared.refused_sockets.RefusedSockets.{RefusedSockets}
use Rattle.proxy_serve_core.specs.declared.refused_sockets.SocketRefusal.{SocketRefusal}

-- those of a cause
abbrev pub of_refusal : SocketRefusal → RefusedSockets → CauseFaults
of_refusal SocketRefusal.Full refused = refused.full
of_refusal SocketRefusal.NoFile refused = refused.no_file
of_refusal SocketRefusal.NoMemory refused = refused.no_memory

-- the same with others of that cause
abbrev pub with_refusal : SocketRefusal → CauseFaults → RefusedSockets → RefusedSockets
with_refusal SocketRefusal.Full new refused = record refused { full = new }
with_refusal SocketRefusal.NoFile new refused = record refused { no_file = new }
with_refusal SocketRefusal.NoMemory new refused = record refused { no_memory = new }
