use Rattle.proxy_engines.proofs.host.HostEngine.go_on.Goals as goal

pub returns-else-is_some-clause-moves : goal.returns-else-is_some-clause-moves
returns-else-is_some-clause-moves g c = c.go_on_alone.ensures.moves

pub returns-then-is_some-clause-moves : goal.returns-then-is_some-clause-moves
returns-then-is_some-clause-moves g c = c.go_on_link.ensures.moves
