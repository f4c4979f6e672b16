use Rattle.std.proofs.Common.{◌≡◌, ◌++◌, take}
use Rattle.proxy_pages.specs.Lines.{escaped}
use Rattle.proxy_pages.proofs.lines.push_escaped.Given as goal

-- the bytes so far were appended
abbrev pub invariant-loop-byte : goal.invariant-loop-byte
invariant-loop-byte l = l.page.items ≡ l.fn.page.items ++ escaped (take l.byte-index l.value)
