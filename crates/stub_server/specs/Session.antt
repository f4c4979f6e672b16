-- How far the requests of a link have been served.
use Rattle.std.specs.Prelude.{ℕ, ◌+◌, ◌*◌}
use Rattle.resp_core.specs.ReaderState.{unread_bytes}
use Rattle.stub_server.specs.declared.session.SessionStep.{SessionStep}
use Rattle.stub_server.specs.declared.session.SessionStep.TheVariants as nexts
use Rattle.stub_server.specs.declared.session.Session.{Session}

-- how many steps a request needs yet
abbrev pub steps_of : SessionStep → ℕ
steps_of nexts.Read = 0
steps_of (nexts.Serve request) = 2
steps_of (nexts.Say reply) = 1
steps_of nexts.Garble = 1

-- a number that falls with each step
abbrev pub left_of : Session → ℕ
left_of s = unread_bytes s.requests * 3 + steps_of s.next
