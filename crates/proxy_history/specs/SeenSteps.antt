-- The other order of steps: a history has the newest first, a journal, as a pass sees it, the oldest.
use Rattle.std.specs.Prelude.{List, reverse}
use Rattle.proxy_history.specs.History.{History, Step}

-- the history of what a pass sees
abbrev pub history_of_seen : List Step → History
history_of_seen seen = reverse seen

-- what a pass sees of a history
abbrev pub seen_of_history : History → List Step
seen_of_history H = reverse H
