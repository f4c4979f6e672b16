use Rattle.std.proofs.Common.{◌≡◌, Some, None, false}
use Rattle.proxy_engines.specs.Turns.{KeepsTurns, own_history}
use Rattle.proxy_engines.specs.Ends.{KeepsReader}
use Rattle.proxy_engines.proofs.HostMoves.{GoesBy}
use Rattle.proxy_engines.specs.Host.{GetsReplies}
use Rattle.proxy_engines.specs.Moves.{AsTold}
use Rattle.proxy_engines.specs.Faults.{is_fault, told_by_outcome}
use Rattle.proxy_engines.proofs.link.Link.answer_all.Given as goal

abbrev pub invariant-loop : goal.invariant-loop
invariant-loop g l =
    AsTold (GoesBy l.fn.outbox l.outbox (Some l.fn.self) (Some l.self) (own_history (g.T.Turns.facts l.fn.turns))
    (own_history (g.T.Turns.facts l.turns)) l.fn.moment) (told_by_outcome l.outcome)
    × (l.self.inbox.values.refusal ≡ None)
    × KeepsReader l.fn.self.inbox l.self.inbox
    × (l.self.counts ≡ l.fn.self.counts)
    × (is_fault l.outcome ≡ false)
    × KeepsTurns (g.T.Turns.facts l.fn.turns) (g.T.Turns.facts l.turns)
    × GetsReplies l.fn.outbox l.outbox
