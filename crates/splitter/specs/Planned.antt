-- What a plan says.
use Rattle.std.specs.Prelude.{◌≡◌, [], ◌∷◌, true, Some, Contains, length}
use Rattle.resp_core.specs.Value.{tree_of}
use Rattle.resp_core.specs.Command.{word}
use Rattle.command_table.specs.Entry.{row_of}
use Rattle.command_table.specs.Table.{rows, row_named}
use Rattle.command_table.specs.declared.Entry.{Entry}
use Rattle.splitter.specs.Split.{Words}
use Rattle.splitter.specs.Part.{part_of}
use Rattle.splitter.specs.Plan.{Plan, here, leave, parts, takes}
use Rattle.splitter.specs.declared.plans.Join.TheVariants.{Same}
use Rattle.splitter.specs.declared.plans.Plan.{Plan as Plan'}
use Rattle.splitter.specs.declared.plans.Plan.TheVariants as plans
use Rattle.splitter.specs.declared.plans.Planned.{Planned}
use Rattle.splitter.specs.declared.plans.Planned.TheVariants as planned

-- what a plan of the code says
abbrev pub plan_in : Plan' → Plan
plan_in (plans.Here name v) = here name (tree_of v)
plan_in (plans.Leave name v) = leave name (tree_of v)
plan_in (plans.Parts how list) = parts how list

-- what the plan of one request of many says: a command that stays whole is its one part
abbrev pub planned_in : Planned → Plan
planned_in (planned.Whole key bytes) = parts Same (part_of key.now bytes ∷ [])
planned_in (planned.Other plan) = plan_in plan

-- the table has the command of these words in this row, and a command of the row may have so many
pub record IsTakenBy (entry : Entry) (words : Words) : Type 0 where
  pub row : row_named (word words 0) ≡ Some (row_of entry)
  pub known : Contains rows (row_of entry)
  pub takes : takes entry.kind entry.least (length words) ≡ true
