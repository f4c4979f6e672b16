-- A request, as a line has it.
use Rattle.std.specs.Prelude.{ℕ, Bool, false, List, [], ◌∷◌, ◌++◌, codes, decimal, if◌then◌else◌}
use Rattle.resp_core.specs.Tree.{Tree}
use Rattle.resp_core.specs.Command.{is_command, words_of}
use Rattle.splitter.specs.declared.plans.PartPlan.{PartPlan}
use Rattle.splitter.specs.Request.{Request, read, broken}
use Rattle.splitter.specs.Plan.{Plan, here, leave, parts, plan_of}
use Rattle.ketama.specs.Key.{point_of}
use Rattle.proxy_record.specs.Values.{value_text, words_text}
use Rattle.proxy_record.specs.declared.payloads.Payloads.{Payloads}
use Rattle.proxy_record.specs.declared.payloads.Payloads.TheVariants.{Clear, Hashed}

-- what was read: a command's words, or any other value
abbrev pub asked_text : Payloads → Tree → List ℕ
asked_text payloads t = if is_command t then words_text payloads (words_of t) else codes "\"value\": " ++ value_text payloads false t

-- the ring points of the keys of these parts, and the end of their list
abbrev pub points_of : Bool → List ℕ → List PartPlan → List ℕ
points_of tags before [] = codes "]"
points_of tags before (p ∷ ps) = before ++ decimal (point_of p.key tags) ++ points_of tags (codes ", ") ps

-- the points of parts, if there are any
abbrev pub points_of_parts : Bool → List PartPlan → List ℕ
points_of_parts tags [] = []
points_of_parts tags (p ∷ ps) = points_of tags (codes ", \"points\": [") (p ∷ ps)

-- the points of a plan's parts
abbrev pub points_text : Bool → Plan → List ℕ
points_text tags (here name v) = []
points_text tags (leave name v) = []
points_text tags (parts how ps) = points_of_parts tags ps

-- the points where payloads are hashed
abbrev pub points_if : Payloads → Request → List ℕ
points_if Clear r = []
points_if (Hashed key tags) r = points_text tags (plan_of r)

-- what a client asks
abbrev pub asked_by : Payloads → Request → List ℕ
asked_by payloads (read t) = asked_text payloads t
asked_by payloads broken = codes "\"broken\": true"

-- a request, with its points
abbrev pub request_text : Payloads → Request → List ℕ
request_text payloads r = asked_by payloads r ++ points_if payloads r
