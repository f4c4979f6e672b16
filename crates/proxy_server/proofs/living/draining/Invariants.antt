use Rattle.std.proofs.Common.{List, map, take, filter}
use Rattle.proxy_generations.specs.Events.{Event}
use Rattle.proxy_generations.specs.GenerationsState.{Settings, Stands}
use Rattle.proxy_server.specs.declared.line.Inherited.{Inherited}
use Rattle.proxy_server.specs.Living.{is_draining}
use Rattle.proxy_server.specs.LookSums.{IsLookSum}
use Rattle.proxy_server.proofs.living.draining.Given as goal

-- those so far that drain are added
abbrev pub invariant-loop-one : goal.invariant-loop-one
invariant-loop-one l = (s : Settings) (es : List (Event Inherited)) → Stands l.generations s es
    → IsLookSum (map (λ x. x.look) (filter (λ x. is_draining es x.number) (take l.one-index l.living))) l.look
