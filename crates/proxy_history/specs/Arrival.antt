-- How the parts of a command are placed at its arrival: each gets its host for good, or a value at once.
use Rattle.std.specs.Prelude.{ℕ, Bool, ◌+◌, nat_lt, if◌then◌else◌, Option, Some, None, List, [], ◌∷◌, ◌++◌, length, map, filter, codes}
use Rattle.resp_core.specs.Tree.{Tree, fault}
use Rattle.ketama.specs.Owner.{owner_of}
use Rattle.ejector.specs.State.{hosts_of}
use Rattle.ejector.specs.Ejection.{state}
use Rattle.ejector.specs.UsableHosts.{is_usable}
use Rattle.splitter.specs.Plan.{Plan, here, leave, parts}
use Rattle.splitter.specs.declared.plans.PartPlan.{PartPlan}
use Rattle.proxy_history.specs.Setting.{Setting, point_for, max_waiting}
use Rattle.proxy_history.specs.History.{epoch, accepted_count, plan_for}
use Rattle.proxy_history.specs.Part.{Part, Past, is_of}
use Rattle.proxy_history.specs.Waiting.{waiting_parts}
use Rattle.proxy_history.specs.declared.event.Event.{Event}
use Rattle.proxy_history.specs.declared.event.Event.TheVariants.{Arrived}

-- the error of a part without a host
abbrev pub no_upstream_host : Tree
no_upstream_host = fault (codes "no upstream host")

-- the error of a part for whose host too many wait
abbrev pub proxy_busy : Tree
proxy_busy = fault (codes "proxy busy")

-- a part without host
abbrev pub hostless : ℕ → ℕ → ℕ → PartPlan → Part
hostless conn command number p =
    record { conn = conn; command = command; number = number; text = p.text; host = None; epoch = 0; local = Some no_upstream_host }

-- how many wait before it: those that waited, and those of its command that were placed
abbrev pub before_it : ℕ → Past → List Part → ℕ
before_it h past placed = length (waiting_parts h past) + length (filter (is_of h (epoch h past.steps)) placed)

-- a part with the host that it gets
abbrev pub with_host : Past → List Part → Option ℕ → Part → Part
with_host past placed None p = p
with_host past placed (Some h) p =
    record p { host = Some h; epoch = epoch h past.steps; local = if nat_lt (before_it h past placed) max_waiting then None else Some proxy_busy }

-- for each host, whether it is usable at this moment
abbrev pub usable_flags : Setting → Past → List Bool
usable_flags S past = map (is_usable S.rules (state S.rules S.opening past.marks)) (hosts_of S.rules)

-- the host of a key at this moment: the owner of its point among the usable hosts
abbrev pub host_for : Setting → Past → List ℕ → Option ℕ
host_for S past key = owner_of S.ring.pairs (point_for S key) (usable_flags S past)

-- a part of a plan as it arrives behind others
abbrev pub placed_part : Setting → Past → ℕ → ℕ → List Part → PartPlan → Part
placed_part S past conn command placed p =
    with_host past placed (host_for S past p.key) (hostless conn command (length placed) p)

-- the parts of a command, placed one after the other
abbrev pub parts_placed : Setting → Past → ℕ → ℕ → List Part → List PartPlan → List Part
parts_placed S past conn command placed [] = placed
parts_placed S past conn command placed (p ∷ ps) = parts_placed S past conn command (placed ++ placed_part S past conn command placed p ∷ []) ps

-- the parts that arrive by a plan
abbrev pub placed_by : Setting → Past → ℕ → Plan → List Part
placed_by S past conn (parts how list) = parts_placed S past conn (accepted_count conn past.steps) [] list
placed_by S past conn (here name value) = []
placed_by S past conn (leave name value) = []

-- the parts that an event brings
abbrev pub parts_by : Setting → Past → Event → List Part
parts_by S past (Arrived conn request) = placed_by S past conn (plan_for request)
parts_by S past _ = []
