-- What each command came to.
use Rattle.std.specs.Prelude.{ℕ, Bool, ◌==◌, ◌&&◌, Option, Some, None, List, [], ◌∷◌, filter, option_map}
use Rattle.std.specs.Option.{option_and_then}
use Rattle.std.specs.List.{slice_get}
use Rattle.resp_core.specs.Tree.{Tree}
use Rattle.splitter.specs.Plan.{Plan, here, leave, parts}
use Rattle.splitter.specs.Join.{join_of}
use Rattle.proxy_history.specs.History.{plan_for, requests}
use Rattle.proxy_history.specs.Part.{Part, Past}
use Rattle.proxy_history.specs.Value.{value_of}

-- a value before others, where all are there
abbrev pub with_value : Option Tree → Option (List Tree) → Option (List Tree)
with_value None vs = None
with_value (Some v) None = None
with_value (Some v) (Some vs) = Some (v ∷ vs)

-- the values of all of these, once each has one
abbrev pub values_of : Past → List Part → Option (List Tree)
values_of past [] = Some []
values_of past (p ∷ ps) = with_value (value_of past p) (values_of past ps)

-- whether a part is of this command of the connection
abbrev pub is_part_of : ℕ → ℕ → Part → Bool
is_part_of c i p = (p.conn == c) && (p.command == i)

-- the parts of a command
abbrev pub parts_of : ℕ → ℕ → Past → List Part
parts_of c i past = filter (is_part_of c i) past.parts

-- what a command comes to by its plan
abbrev pub outcome_by : Past → ℕ → ℕ → Plan → Option Tree
outcome_by past c i (here name value) = Some value
outcome_by past c i (leave name value) = Some value
outcome_by past c i (parts how list) = option_map (join_of how) (values_of past (parts_of c i past))

-- the outcome of command i of connection c, if it has one yet
abbrev pub outcome : ℕ → ℕ → Past → Option Tree
outcome c i past = option_and_then (λ request. outcome_by past c i (plan_for request)) (slice_get (requests c past.steps) i)
