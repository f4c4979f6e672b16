use Rattle.std.proofs.Common.{◌≡◌, None, take}
use Rattle.proxy_server.specs.Living.{look_at}
use Rattle.proxy_server.proofs.living.look.Given as goal

-- none of those so far has the number
abbrev pub invariant-loop-one : goal.invariant-loop-one
invariant-loop-one l = look_at l.number (take l.one-index l.living) ≡ None
