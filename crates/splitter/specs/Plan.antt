-- What the proxy does with a request.
use Rattle.std.specs.Prelude.{ℕ, Bool, true, false, ◌&&◌, ◌==◌, ◌%◌, nat_le, if◌then◌else◌, Option, Some, None, List, ◌++◌, length, map, take, codes}
use Rattle.resp_core.specs.Tree.{Tree, simple, fault, bulk}
use Rattle.resp_core.specs.Command.{is_command, words_of, word}
use Rattle.command_table.specs.Table.{Row, row_named}
use Rattle.command_table.specs.declared.Kind.{Kind}
use Rattle.command_table.specs.declared.Kind.TheVariants.{Ping, Echo, Quit, One, SplitGet, SplitSet, SplitSum}
use Rattle.splitter.specs.declared.plans.Join.{Join}
use Rattle.splitter.specs.declared.plans.Local.{Local}
use Rattle.splitter.specs.declared.plans.Local.TheVariants.{Pong, Echoed, Bye, Invalid, Unsupported, WrongNumber, Broken}
use Rattle.splitter.specs.declared.plans.PartPlan.{PartPlan}
use Rattle.splitter.specs.Request.{Request, read, broken}
use Rattle.splitter.specs.Split.{Words, split, join_by, part_at}

-- the proxy answers this itself; or it does, and the connection finishes; or hosts answer these parts, and their values are
-- joined
pub data Plan : Type 0 where
  here : Local → Tree → Plan
  leave : Local → Tree → Plan
  parts : Join → List PartPlan → Plan

-- a byte of a name as it is shown: `?` for one that can't be printed
abbrev pub shown_byte : ℕ → ℕ
shown_byte b = if nat_le 32 b && nat_le b 126 then b else 63

-- a name as it is shown: its first 64 bytes
abbrev pub shown_name : List ℕ → List ℕ
shown_name name = map shown_byte (take 64 name)

-- the text for a name that isn't in the table
abbrev pub unsupported_text : List ℕ → List ℕ
unsupported_text name = codes "unsupported command '" ++ shown_name name ++ codes "'"

-- the text for a wrong number of words
abbrev pub wrong_number : Row → List ℕ
wrong_number r = codes "wrong number of arguments for '" ++ r.name ++ codes "' command"

-- whether a command of this kind may have so many words, `least` being the least number in the table
abbrev pub takes : Kind → ℕ → ℕ → Bool
takes Ping least words = words == least
takes Echo least words = words == least
takes Quit least words = nat_le least words
takes One least words = nat_le least words
takes SplitGet least words = nat_le least words
takes SplitSet least words = nat_le least words && (words % 2 == 1)
takes SplitSum least words = nat_le least words

-- the plan of a command that hosts answer
abbrev pub plan_of_parts : Row → Words → Plan
plan_of_parts r words = parts (join_by r.kind) (map (part_at r.key_at) (split r words))

-- the plan of a command of the table with a right number of words
abbrev pub plan_by : Kind → Row → Words → Plan
plan_by Ping r words = here Pong (simple (codes "PONG"))
plan_by Echo r words = here Echoed (bulk (word words 1))
plan_by Quit r words = leave Bye (simple (codes "OK"))
plan_by One r words = plan_of_parts r words
plan_by SplitGet r words = plan_of_parts r words
plan_by SplitSet r words = plan_of_parts r words
plan_by SplitSum r words = plan_of_parts r words

-- the plan of a command by its row, if it has one
abbrev pub plan_by_row : Option Row → Words → Plan
plan_by_row None words = here Unsupported (fault (unsupported_text (word words 0)))
plan_by_row (Some r) words = if takes r.kind r.least (length words) then plan_by r.kind r words else here WrongNumber (fault (wrong_number r))

-- the table of plans, its cases in their order: the proxy answers a request itself, or does and the connection finishes, or
-- hosts answer parts whose values are joined
abbrev pub plan_of : Request → Plan
plan_of broken = leave Broken (fault (codes "downstream protocol error"))
plan_of (read t) = if is_command t then plan_by_row (row_named (word (words_of t) 0)) (words_of t) else here Invalid (fault (codes "invalid request"))

-- whether the connection finishes with a plan
abbrev pub is_last : Plan → Bool
is_last (here name v) = false
is_last (leave name v) = true
is_last (parts how ps) = false
