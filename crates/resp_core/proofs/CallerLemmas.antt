-- What a crate above cites of values, texts and streams.

-- the words of an array, and when it is a command
pub use Rattle.resp_core.proofs.CommandLemmas.{words_of-list, is_command-list}
-- the members of a list of values
pub use Rattle.resp_core.proofs.TreeLemmas.{length_members, trees_of-members}
-- the laws of texts
pub use Rattle.resp_core.proofs.SpellingLemmas.{spelling_is_shortest, read_values_are_plain}
-- what a reader stands after
pub use Rattle.resp_core.proofs.streams.ReaderStateLemmas.{splits-Stands}
-- more bytes behind values, and more values
pub use Rattle.resp_core.proofs.streams.SplitsLemmas.{splits_fed}
pub use Rattle.resp_core.proofs.streams.StreamLawLemmas.{splits_then}
-- the laws of streams
pub use Rattle.resp_core.proofs.streams.StreamLawLemmas.{each_stream_holds, one_holding, refusal_stays, values_stay, values_go_on, text_is_read_back}
-- the words of a command of these words
pub use Rattle.resp_core.proofs.SpelledCommandLemmas.{words_of_command, command_of_is_command, payloads}
