use Rattle.std.proofs.Common.{◌≡◌, ℕ, ◌+◌, ◌*◌, ◌++◌, List, length, map}
use Rattle.resp_core.specs.Tree.{Trees, members}
use Rattle.resp_core.specs.Text.{texts}
use Rattle.resp_core.specs.Value.{tree_of}
use Rattle.proxy_record.specs.ReadBack.{AreShowable}
use Rattle.proxy_record.proofs.ReadLemmas.{Remain}
use Rattle.proxy_record.proofs.read_back.+read.Given as goal

abbrev pub decreases-read_value : goal.decreases-read_value
decreases-read_value l = 3 * l.left + 2

abbrev pub decreases-read_list : goal.decreases-read_list
decreases-read_list l = 3 * l.left + 1

abbrev pub decreases-read_members : goal.decreases-read_members
decreases-read_members l = 3 * l.left + 3

-- some members were read, and the others' texts stand in front
abbrev pub invariant-read_members-loop-i : goal.invariant-read_members-loop-i
invariant-read_members-loop-i l =
    (ts : Trees) (behind : List ℕ) → AreShowable l.left ts → l.count ≡ length (members ts) → l.initial.rest ≡ texts ts ++ behind
    → Remain l.left l._i l.count (map tree_of l.values.items) l.rest behind ts
