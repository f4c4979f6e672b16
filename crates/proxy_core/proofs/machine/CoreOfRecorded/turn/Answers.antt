use Rattle.std.proofs.Common.{ap}
use Rattle.proxy_core.specs.Recorded.{journal_of}
use Rattle.proxy_core.proofs.turn.RecordedLemmas.{journal_more, journal_legal, journal_cause}
use Rattle.proxy_core.proofs.machine.CoreOfRecorded.turn.Goals as goal

pub returns-in-Ok-clause-answered : goal.returns-in-Ok-clause-answered
returns-in-Ok-clause-answered g c = journal_more c.args.self.now c.turn.new.self _ c.in-Ok.ensures.step.history

pub returns-in-Ok-clause-legal : goal.returns-in-Ok-clause-legal
returns-in-Ok-clause-legal g c = λ before. journal_legal c.args.self.now c.turn.new.self c.in-Ok.ensures.step.setting c.turn.ensures.legal

pub returns-in-Err-clause-refused : goal.returns-in-Err-clause-refused
returns-in-Err-clause-refused g c =
    (ap journal_of c.in-Err.ensures.err, c.in-Err.ensures.event, journal_cause c.args.self.now c.in-Err.refused.cause c.args.event c.in-Err.ensures.cause)
