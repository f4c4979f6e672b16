use Rattle.std.proofs.Common.{rules}
use Rattle.socket_halves.proofs.socket_reader.SocketReaderReadTally.read_told.Goals as goal

pub returns-in-Ok-clause-told : goal.returns-in-Ok-clause-told
returns-in-Ok-clause-told g c = search rules fits 1000
