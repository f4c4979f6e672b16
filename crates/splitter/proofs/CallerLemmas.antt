-- What a crate above cites of plans and joins.

-- the plan of a command
pub use Rattle.splitter.proofs.PlanLemmas.{plan_of-command}
-- what is planned and joined can be written
pub use Rattle.splitter.proofs.PlainTextLemmas.{plan_texts_are_plain, joins_of_plain_values_are_plain}
-- parts are commands, each with its key
pub use Rattle.splitter.proofs.PartLemmas.{all_made, plain_command, parts_are_commands}
-- a command is split into no more commands than it has words, or into one
pub use Rattle.splitter.proofs.SplitLemmas.{length-split_by}
-- parts keep a client's limits
pub use Rattle.splitter.proofs.CommandLemmas.{parts_are_of_commands, commands_keep_limits}
-- requests, and where they finish
pub use Rattle.splitter.proofs.RequestLemmas.{none_finishes-one, none_finishes-append, up_to_last-none, up_to_last-first, each_stream_asks, one_asking, requests_go_on}
