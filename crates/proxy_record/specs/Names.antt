-- The names that stand in lines.
use Rattle.std.specs.Prelude.{ℕ, List, codes, Option, Some, None}
use Rattle.proxy_history.specs.declared.event.Kind.{Kind}
use Rattle.proxy_history.specs.declared.event.Kind.TheVariants as kinds
use Rattle.ejector.specs.declared.answer.Trip.{Trip}
use Rattle.ejector.specs.declared.answer.Trip.TheVariants as trips
use Rattle.splitter.specs.declared.plans.Local.{Local}
use Rattle.splitter.specs.declared.plans.Local.TheVariants as locals

-- a fault's kind
abbrev pub kind_name : Kind → List ℕ
kind_name kinds.Refused = codes "Refused"
kind_name kinds.Dropped = codes "Dropped"
kind_name kinds.Late = codes "Late"
kind_name kinds.Garbled = codes "Garbled"

-- what a result did to its host
abbrev pub trip_name : Trip → List ℕ
trip_name trips.None = codes "None"
trip_name trips.Ejected = codes "Ejected"
trip_name trips.Kept = codes "Kept"

-- an answer of the proxy's own, in quotes; or null
abbrev pub local_name : Option Local → List ℕ
local_name None = codes "null"
local_name (Some locals.Pong) = codes "\"Pong\""
local_name (Some locals.Echoed) = codes "\"Echoed\""
local_name (Some locals.Bye) = codes "\"Bye\""
local_name (Some locals.Invalid) = codes "\"Invalid\""
local_name (Some locals.Unsupported) = codes "\"Unsupported\""
local_name (Some locals.WrongNumber) = codes "\"WrongNumber\""
local_name (Some locals.Broken) = codes "\"Broken\""
