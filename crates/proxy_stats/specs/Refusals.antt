-- The names of the commands that a proxy refused as unsupported.
use Rattle.std.specs.Prelude.{◌≡◌, ℕ, Bool, false, if◌then◌else◌, Option, Some, None, List, [], filter_map, length, sum_by}
use Rattle.resp_core.specs.Command.{is_command, word, words_of}
use Rattle.splitter.specs.Request.{Request, read, broken, request_of}
use Rattle.proxy_history.specs.History.{Step}
use Rattle.proxy_history.specs.declared.event.Event.{Event}
use Rattle.proxy_history.specs.declared.event.Event.TheVariants.{Arrived}
use Rattle.proxy_history.specs.declared.answer.Answer.{Answer}
use Rattle.proxy_history.specs.declared.answer.Answer.TheVariants.{Accepted}
use Rattle.proxy_stats.specs.declared.refused_names.RefusedNames.{RefusedNames}
use Rattle.proxy_stats.specs.declared.tally.Counts.{Counts}
use Rattle.proxy_stats.specs.Amounts.{is_local, own_answers}
use Rattle.proxy_stats.specs.Counts.{AreKept}
use Rattle.proxy_stats.specs.RefusedNames.{names_after, noted}

-- the first word of a command; a request that is none has no bytes in its place
abbrev pub name_of : Request → List ℕ
name_of (read t) = if is_command t then word (words_of t) 0 else []
name_of broken = []

-- the name of the command that arrived
abbrev pub name_asked : Event → List ℕ
name_asked (Arrived conn request) = name_of (request_of request)
name_asked _ = []

-- whether the proxy answered that it doesn't know the command
abbrev pub is_refusal : Answer → Bool
is_refusal (Accepted index local parts no_host busy) = is_local 4 local
is_refusal _ = false

-- the name of the command, if a step refused one
abbrev pub refused_name : Step → Option (List ℕ)
refused_name s = if is_refusal s.answer then Some (name_asked s.event) else None

-- the names of the refused commands, in their order
abbrev pub refused_in : List Step → List (List ℕ)
refused_in steps = filter_map refused_name steps

-- the numbers of the names of the steps' refused commands
abbrev pub refused_names_of : List Step → RefusedNames
refused_names_of steps = names_after (refused_in steps)

-- the numbers with those of one step more
abbrev pub noted_in : RefusedNames → Step → RefusedNames
noted_in r s = if is_refusal s.answer then noted r (name_asked s.event) else r

-- The counts and the names are those of the steps.
pub record AreTallied (steps : List Step) (c : Counts) (r : RefusedNames) : Type 0 where
  pub counts : AreKept steps c
  pub names : r ≡ refused_names_of steps

-- There are as many names as answers of that kind.
abbrev pub NamesAreOfRefusals : Type 0
NamesAreOfRefusals = (steps : List Step) → length (refused_in steps) ≡ sum_by (own_answers 4) steps
