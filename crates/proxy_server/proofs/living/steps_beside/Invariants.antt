use Rattle.std.proofs.Common.{◌≡◌, ◌+◌, List, sum_by, take, filter}
use Rattle.proxy_generations.specs.Events.{Event}
use Rattle.proxy_generations.specs.GenerationsState.{Settings, Stands}
use Rattle.proxy_stats.specs.Sums.{capped_sum}
use Rattle.proxy_server.specs.declared.line.Inherited.{Inherited}
use Rattle.proxy_server.specs.Living.{is_beside}
use Rattle.proxy_server.proofs.living.steps_beside.Given as goal

-- the steps of those so far are added
abbrev pub invariant-loop-one : goal.invariant-loop-one
invariant-loop-one l = (s : Settings) (es : List (Event Inherited)) → Stands l.generations s es
    → l.steps ≡ capped_sum (l.past + sum_by (λ x. x.look.steps) (filter (λ x. is_beside es x.number) (take l.one-index l.living)))
