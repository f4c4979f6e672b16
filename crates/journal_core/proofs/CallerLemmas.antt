-- What a crate above cites: what a journal keeps may go to another thread.
use denote.RattleType.{RattleType}
use denote.Param.Send.{IsSend, sendable}
use Rattle.std.proofs.Crossing.{crosses}
use Rattle.journal_core.specs.contracts.blocks.Blocks as Blocks
use Rattle.journal_core.specs.contracts.kept.Kept as Kept
use Rattle.journal_core.specs.contracts.list.Listed as Listed

-- (a list that only proofs read owns nothing)
pub listed_send : (Y : RattleType) → IsSend (Listed.the_row Y)
listed_send Y = record { owned = λ d vs. ((λ vss. (tt, ((λ uss. (tt, tt)), tt))), tt); leaving = λ k f vs. tt }

pub blocks_send : (Y : RattleType) → IsSend Y → IsSend (Blocks.the_row Y)
blocks_send Y s = search (crosses, sendable) depth 20

pub kept_send : (Y : RattleType) → IsSend Y → IsSend (Kept.the_row Y)
kept_send Y s = let list : IsSend (Listed.the_row Y) = listed_send Y in let blocks : IsSend (Blocks.the_row Y) = blocks_send Y s in search (crosses, sendable) depth 20
