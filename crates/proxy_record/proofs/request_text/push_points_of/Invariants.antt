use Rattle.std.proofs.Common.{◌≡◌, ◌++◌, drop}
use Rattle.std.specs.Prelude.{codes}
use Rattle.proxy_record.specs.Requests.{points_of}
use Rattle.proxy_record.proofs.request_text.push_points_of.Given as goal

-- with the points that are left it is the whole text
abbrev pub invariant-loop-part : goal.invariant-loop-part
invariant-loop-part l =
    l.line.items ++ points_of l.tags l.before (drop l.part-index l.parts)
    ≡ l.initial.line.items ++ points_of l.tags (codes ", \"points\": [") l.parts
