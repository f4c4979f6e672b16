-- What steps of a journal cost. The lists are of all steps that were made, the newest first.
use Rattle.std.specs.Prelude.{ℕ, ◌+◌, ◌-◌, ◌*◌, ◌==◌, ◌≤◌, ⊤, if◌then◌else◌, List, [], ◌∷◌, length, sum_by}
use Rattle.journal_budget.specs.declared.step_kind.StepKind.{StepKind}
use Rattle.journal_budget.specs.declared.step_kind.StepKind.TheVariants.{Opened, Accepted, Sent, Matched, Lost, Handed, Finished, Closed}

-- How many further steps a step owes: a command those that send and answer each part, and the one that hands out; an opened
-- connection three at its end, which finish and close it, or accept a last broken request, hand out and close.
abbrev pub owed_by : StepKind → ℕ
owed_by Opened = 3
owed_by (Accepted parts) = 2 * parts + 1
owed_by _ = 0

-- how many of the steps owed it is, or stands in place of
abbrev pub done_by : StepKind → ℕ
done_by Sent = 1
done_by Matched = 1
done_by (Lost parts) = parts
done_by Handed = 1
done_by Finished = 1
done_by Closed = 1
done_by _ = 0

-- what a step costs: itself and what it owes, where it wasn't owed itself
abbrev pub cost_of : StepKind → ℕ
cost_of k = if done_by k == 0 then 1 + owed_by k else 0

-- what a step sets free: what it stands in place of, beside itself
abbrev pub freed_of : StepKind → ℕ
freed_of k = done_by k - 1

-- the steps that are owed: all that those that begin something owe, less what was done since
abbrev pub owed : List StepKind → ℕ
owed [] = 0
owed (k ∷ ks) = owed ks + owed_by k - done_by k

-- no more was done than was owed
abbrev pub IsOwed : List StepKind → Type 0
IsOwed [] = ⊤
IsOwed (k ∷ ks) = (done_by k ≤ owed ks) × IsOwed ks

-- how many steps were made
abbrev pub made : List StepKind → ℕ
made ks = length ks

-- what they cost
abbrev pub cost : List StepKind → ℕ
cost ks = sum_by cost_of ks

-- what they set free
abbrev pub freed : List StepKind → ℕ
freed ks = sum_by freed_of ks
