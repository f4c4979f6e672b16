-- The room in a journal that a client's further command needs.
use Rattle.std.specs.Prelude.{◌≤◌, ◌+◌, ℕ}
use Rattle.limits.specs.declared.journals.TheConstants.{MAX_COMMAND_STEPS}
use Rattle.journal_budget.specs.Account.{AccountState, known, owed_steps}
use Rattle.journal_budget.specs.Budget.{capped, free_steps}
use Rattle.journal_budget.specs.Payload.{HasRoomForCommand}

-- by a worker's account there is room for one more command of a client with this many unfinished bytes, beside these steps that are
-- kept for links
abbrev pub HasRoom : AccountState → ℕ → ℕ → Type 0
HasRoom account reserve unfinished = (capped (reserve + MAX_COMMAND_STEPS) ≤ free_steps account.loan)
    × HasRoomForCommand (known account) (owed_steps account) unfinished
