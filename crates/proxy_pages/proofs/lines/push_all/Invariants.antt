use Rattle.std.proofs.Common.{◌≡◌, ◌++◌, map, take}
use Rattle.std.specs.List.{concat}
use Rattle.proxy_pages.proofs.lines.push_all.Given as goal

-- the parts so far were appended
abbrev pub invariant-loop-part : goal.invariant-loop-part
invariant-loop-part l = l.page.items ≡ l.fn.page.items ++ concat (map (λ part. part.now) (take l.part-index l.parts))
