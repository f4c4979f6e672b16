-- Where the link of a host leads.
use Rattle.std.specs.Prelude.{◌≡◌, ⊤, Some}
use Rattle.std.specs.declared.net.socket_addr.SocketAddr.{SocketAddr}
use Rattle.proxy_connections.specs.declared.host_link.LinkState.{LinkState}
use Rattle.proxy_connections.specs.declared.host_link.LinkState.TheVariants.{Down, Connecting, Up}

-- a link in this state, if it has a stream, was to be connected to this address
abbrev pub LeadsTo : SocketAddr → LinkState → Type 0
LeadsTo address Down = ⊤
LeadsTo address (Connecting stream since has_event) = stream ≡ Some address
LeadsTo address (Up stream) = stream ≡ Some address
