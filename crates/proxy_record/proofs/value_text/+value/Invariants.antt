use Rattle.std.proofs.Common.{◌≡◌, ◌++◌, [], drop, map}
use Rattle.resp_core.specs.Tree.{trees_of}
use Rattle.resp_core.specs.Value.{tree_of}
use Rattle.proxy_record.specs.Values.{members_text}
use Rattle.proxy_record.proofs.value_text.+value.Given as goal

-- with the members that are left it is the whole text
abbrev pub invariant-push_members-loop-value : goal.invariant-push_members-loop-value
invariant-push_members-loop-value l =
    l.line.items ++ members_text l.payloads l.before (trees_of (map tree_of (drop l.value-index l.value-items)))
    ≡ l.initial.line.items ++ members_text l.payloads [] (trees_of l.values)
