use Rattle.std.proofs.Common.{◌≡◌}
use Rattle.proxy_admin.specs.Visits.{AreAnswered}
use Rattle.proxy_admin.proofs.visitor.Visitor.answer_requests.Given as goal

-- what came so far is answered
abbrev pub invariant-loop : goal.invariant-loop
invariant-loop l = AreAnswered l.initial.answers l.answers l.initial.self l.self × (l.self.moved ≡ l.initial.self.moved)
