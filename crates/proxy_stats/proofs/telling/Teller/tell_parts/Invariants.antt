use Rattle.std.proofs.Common.{◌≡◌, ℕ, ◌<◌, get_or, length}
use Rattle.proxy_history.specs.Proxy.{history_in}
use Rattle.proxy_history.specs.Past.{past}
use Rattle.proxy_history.specs.Waiting.{waiting_parts}
use Rattle.proxy_notices.specs.declared.unseen_parts.UnseenParts.{UnseenParts}
use Rattle.proxy_stats.proofs.telling.Teller.tell_parts.Given as goal

-- the hosts so far are told as they stand
abbrev pub invariant-loop-host : goal.invariant-loop-host
invariant-loop-host l =
    (length l.self.parts ≡ 64)
    × ((h : ℕ) (d : UnseenParts) → h < l.host → (get_or l.self.parts h d).waiting ≡ length (waiting_parts h (past l.core.setting (history_in l.core))))
