use Rattle.std.proofs.Common.{◌∙◌}
use Rattle.proxy_connections.proofs.host_connection.HostConnection.go_on_noting.Goals as goal

pub returns-clause-keeps : goal.returns-clause-keeps
returns-clause-keeps g c = rw (c.end_behind_fault.ensures.engine ∙ c.note_fault.ensures.engine) c.go_on-moved.ensures.keeps
