-- What a client's stream asks.
use Rattle.std.specs.Prelude.{◌≡◌, ℕ, Bool, true, false, if◌then◌else◌, List, [], ◌∷◌, ◌++◌, map}
use Rattle.resp_core.specs.Tree.{Tree}
use Rattle.resp_core.specs.Laws.{Holds}
use Rattle.limits.specs.declared.messages.TheConstants.{MAX_CLIENT_MEMBERS}
use Rattle.splitter.specs.Request.{Request, read, broken}
use Rattle.splitter.specs.Plan.{plan_of, is_last}

-- what is asked behind the values of a stream, where a byte behind them is refused or none is
abbrev pub end_of : Bool → List Request
end_of false = []
end_of true = broken ∷ []

-- the requests of a client's stream: its values in order, and then a broken one where a byte behind them is refused
abbrev pub AreRequests : List ℕ → List Request → Type 0
AreRequests b rs = (ts : List Tree) × (refused : Bool) × Holds MAX_CLIENT_MEMBERS b ts refused × (rs ≡ map read ts ++ end_of refused)

-- whether a connection finishes with the request: no later one of it is accepted
abbrev pub finishes : Request → Bool
finishes r = is_last (plan_of r)

-- the requests up to and with the first that finishes
abbrev pub up_to_last : List Request → List Request
up_to_last [] = []
up_to_last (r ∷ rs) = r ∷ (if finishes r then [] else up_to_last rs)

-- these are the first requests of a stream that begins with these bytes, whatever comes behind them
abbrev pub AreFirst : List ℕ → List Request → Type 0
AreFirst b rs = (more : List ℕ) (all : List Request) → AreRequests (b ++ more) all → (others : List Request) × (all ≡ rs ++ others)
