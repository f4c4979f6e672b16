-- How the fault of a link is named, and when a reply has passed a limit.
use Rattle.std.specs.Prelude.{◌≡◌, ◌⊎◌, ⊤, Option, Some, None, IsSome}
use Rattle.proxy_history.specs.declared.event.Kind.{Kind}
use Rattle.resp_core.specs.declared.error.RespError.{RespError}
use Rattle.proxy_engines.specs.Host.{LinkState}
use Rattle.proxy_engines.specs.declared.link_fault.LinkFault.{LinkFault}
use Rattle.proxy_engines.specs.declared.link_fault.PassedLimit.{PassedLimit}

-- a passed limit is told exactly where the reader of values has refused a byte since a value was too long
abbrev pub TellsLimit : Option RespError → Option PassedLimit → Type 0
TellsLimit (Some (RespError.TooLong at)) passed = IsSome passed
TellsLimit refusal passed = passed ≡ None

-- The fault that ends a link for this kind, by what the link's reader of values has refused. One of kind Dropped is the link's own, or
-- the caller gave the link up.
abbrev pub IsFaultOf : Kind → Option RespError → LinkFault → Type 0
IsFaultOf Kind.Refused refusal fault = fault ≡ LinkFault.Refused
IsFaultOf Kind.Late refusal fault = fault ≡ LinkFault.Late
IsFaultOf Kind.Dropped refusal fault = (fault ≡ LinkFault.Closed) ⊎ (fault ≡ LinkFault.GivenUp)
IsFaultOf Kind.Garbled (Some (RespError.TooLong at)) fault = (limit : PassedLimit) × (fault ≡ LinkFault.TooLong limit)
IsFaultOf Kind.Garbled refusal fault = fault ≡ LinkFault.Garbled

-- what the reader of values has refused, if there is a link
abbrev pub refusal_on : Option LinkState → Option RespError
refusal_on None = None
refusal_on (Some link) = link.inbox.values.refusal

-- the last fault is one of this kind, on this link
abbrev pub Names : Kind → Option LinkState → Option LinkFault → Type 0
Names kind link (Some fault) = IsFaultOf kind (refusal_on link) fault
Names kind link None = ⊥

-- while a fault is to be recorded, the last fault is that
abbrev pub NamesUnrecorded : Option Kind → Option LinkState → Option LinkFault → Type 0
NamesUnrecorded (Some kind) link last = Names kind link last
NamesUnrecorded None link last = ⊤
