use Rattle.std.proofs.Common.{◌≡◌, drop, map}
use Rattle.stub_server.specs.Command.{command_in}
use Rattle.stub_server.specs.Row.{row_of}
use Rattle.stub_server.proofs.command.command_among.Given as goal

abbrev pub invariant-loop-known : goal.invariant-loop-known
invariant-loop-known l = command_in (map row_of (drop l.known-index l.named)) l.name ≡ command_in (map row_of l.named) l.name
