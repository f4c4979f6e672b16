use Rattle.journal_room.proofs.CallerLemmas as room
use Rattle.proxy_rounds.proofs.sweeping.SweepThread.new.Goals as goal

pub new-requires : goal.new-requires
new-requires c = room.IsOfLegalJournal-none c.args.seat c.requires
