-- What a client asks.
use Rattle.std.specs.Prelude.{ℕ, length}
use Rattle.resp_core.specs.Tree.{Tree}
use Rattle.resp_core.specs.Text.{text}
use Rattle.resp_core.specs.Value.{tree_of}
use Rattle.resp_core.specs.Command.{command_of}
use Rattle.splitter.specs.declared.request.Request.{Request as Request'}
use Rattle.splitter.specs.declared.request.Request.TheVariants as requests

-- a value, or bytes that are no text of one
pub data Request : Type 0 where
  read : Tree → Request
  broken : Request

-- what a request of the code asks
abbrev pub request_of : Request' → Request
request_of (requests.Read v) = read (tree_of v)
request_of (requests.Spelled words) = read (command_of words)
request_of requests.Broken = broken

-- how many bytes the text of a request's value has, also where it has a CR or an LF that can't be written
abbrev pub length_of : Request' → ℕ
length_of (requests.Read v) = length (text (tree_of v))
length_of (requests.Spelled words) = length (text (command_of words))
length_of requests.Broken = 0

-- a request that isn't a command as its text
abbrev pub IsNotSpelled : Request' → Type 0
IsNotSpelled (requests.Read v) = Unit {0}
IsNotSpelled (requests.Spelled words) = ⊥
IsNotSpelled requests.Broken = Unit {0}
