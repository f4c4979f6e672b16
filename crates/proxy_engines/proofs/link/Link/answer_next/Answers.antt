use Rattle.std.proofs.Common.{false}
use Rattle.proxy_engines.proofs.OwnHistoryLemmas.{keeps_same}
use Rattle.proxy_engines.proofs.HostMoves.{gets_none, told_then}
use Rattle.proxy_engines.proofs.link.Link.answer_next.Goals as goal

pub returns-in-Value-clause-moves : goal.returns-in-Value-clause-moves
returns-in-Value-clause-moves g c =
    record {
      turns = c.answer.ensures.moves.turns;
      goes = told_then _ _ _ _ _ _ _ _ _ _ _ ((rw c.in-Value.is at c.in_ok-next_value.ensures.goes) _ _ _) c.answer.ensures.moves.goes;
      plain = c.answer.ensures.moves.plain;
    }

pub returns-in-Garbled-clause-moves : goal.returns-in-Garbled-clause-moves
returns-in-Garbled-clause-moves g c =
    record {
      turns = keeps_same _;
      goes = (false, (rw c.in-Garbled.is at c.in_ok-next_value.ensures.goes) _ _ _);
      plain = tt;
    }

pub returns-in-Idle-clause-moves : goal.returns-in-Idle-clause-moves
returns-in-Idle-clause-moves g c =
    record {
      turns = keeps_same _;
      goes = (rw c.in-Idle.is at c.in_ok-next_value.ensures.goes) _ _ _;
      plain = tt;
    }

pub returns-in-Value-clause-untaken : goal.returns-in-Value-clause-untaken
returns-in-Value-clause-untaken g c = c.answer.ensures.untaken

pub returns-in-Garbled-clause-untaken : goal.returns-in-Garbled-clause-untaken
returns-in-Garbled-clause-untaken g c = gets_none _

pub returns-in-Idle-clause-untaken : goal.returns-in-Idle-clause-untaken
returns-in-Idle-clause-untaken g c = gets_none _
