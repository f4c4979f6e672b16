use Rattle.stub_server.specs.Session.{left_of}
use Rattle.stub_server.proofs.session.Session.serve_all.Given as goal

abbrev pub decreases-loop-self : goal.decreases-loop-self
decreases-loop-self l = left_of l.self
