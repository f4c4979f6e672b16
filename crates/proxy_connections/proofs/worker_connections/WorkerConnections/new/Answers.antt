use Rattle.journal_room.proofs.CallerLemmas as room
use Rattle.proxy_connections.proofs.worker_connections.WorkerConnections.new.Goals as goal

pub new-requires : goal.new-requires
new-requires c = room.IsOfLegalJournal-none c.args.seat c.requires
