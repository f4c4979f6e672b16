use Rattle.std.specs.Prelude.{◌≤◌, ◌+◌, ◌-◌}
use Rattle.proxy_histogram.specs.Unanswered.{AnswersOldest}
use Rattle.proxy_histogram.proofs.unanswered.Unanswered.answered.Given as goal

-- those that aren't left are answered, one of them at least in each round
abbrev pub invariant-loop-run : goal.invariant-loop-run
invariant-loop-run l = AnswersOldest l.initial.self l.self l.now (l.count - l.left) l.initial.durations l.durations
    × (l.left + l._run ≤ l.count)
