-- A ledger may go from one thread to another.
use denote.Param.Send.{IsSend, sendable}
use Rattle.std.proofs.Crossing.{crosses}
use Rattle.journal_budget.specs.contracts.ledger.Ledger as Ledger

pub ledger_send : IsSend Ledger.the_row
ledger_send = search (crosses, sendable) depth 30 fits 20000
