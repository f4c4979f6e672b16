use Rattle.std.proofs.Common.{◌≡◌, ℕ, ◌<◌, get_or, length, false}
use Rattle.proxy_server.specs.LookSums.{is_out_at}
use Rattle.proxy_server.proofs.look_sum.line_hosts.Given as goal

-- of those so far it is told whether they are out
abbrev pub invariant-loop-h : goal.invariant-loop-h
invariant-loop-h l = (length l.are_out ≡ 64) × ((k : ℕ) → k < l.h → get_or l.are_out k false ≡ is_out_at l.look k)
