use Rattle.std.proofs.Common.{rules}
use Rattle.journal_budget.proofs.payload.Payload.takes_reply.Goals as goal

pub returns : goal.returns
returns c = search rules
