use Rattle.std.specs.Prelude.{◌≡◌, ◌≤◌, ◌<◌, ◌+◌, ◌-◌, ◌^◌, ◌++◌, drop, length, take}
use Rattle.std.specs.Bool.{OnTrue}
use Rattle.proxy_histogram.proofs.unanswered.Unanswered.move_oldest.Given as goal

-- those that aren't left are moved, one of them at least in each round
abbrev pub invariant-loop-run : goal.invariant-loop-run
invariant-loop-run l =
    (l.self ≡ drop (l.count - l.left) l.initial.self)
    × (length l.initial.others + l.count < 2 ^ 64 → OnTrue l.had_memory (l.others ≡ l.initial.others ++ take (l.count - l.left) l.initial.self))
    × (length l.initial.others + l.count < 2 ^ 64 → length l.others ≡ length l.initial.others + length (take (l.count - l.left) l.initial.self))
    × (l.left + l._run ≤ l.count)
