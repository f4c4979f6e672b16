use Rattle.proxy_engines.proofs.OwnHistoryLemmas.{keeps_same}
use Rattle.proxy_engines.proofs.AnswerLemmas.{if_ok, if_err, cut_told, cut_is, cut_turn, cut_unfailed, turn_unread, turn_unwritten}
use Rattle.std.proofs.Common.{false, refl, rules}
use Rattle.proxy_engines.proofs.ClientMoves.{same_goes}
use Rattle.std.specs.Prelude.{Ok}
use Rattle.proxy_engines.specs.declared.client.Progress.{Progress}
use Rattle.proxy_engines.proofs.RefusalLemmas.{due_cut}
use Rattle.proxy_engines.proofs.client.ClientEngine.step.Goals as goal

pub returns-in-Closed-true-clause-moves : goal.returns-in-Closed-true-clause-moves
returns-in-Closed-true-clause-moves g c =
    record {
      turns = keeps_same _;
      goes = (false, same_goes _ _ _ refl);
      unfailed = (refl, refl);
      due = tt;
    }

pub returns-in-Closed-false-clause-moves : goal.returns-in-Closed-false-clause-moves
returns-in-Closed-false-clause-moves g c =
    record {
      turns = keeps_same _;
      goes = (false, same_goes _ _ _ refl);
      unfailed = (refl, refl);
      due = tt;
    }

pub returns-in-Open-clause-moves : goal.returns-in-Open-clause-moves
returns-in-Open-clause-moves g c = c.go_on.ensures.moves

pub returns-in-Open-clause-tells : goal.returns-in-Open-clause-tells
returns-in-Open-clause-tells g c = c.go_on.ensures.tells

pub returns-in-Open-clause-cut : goal.returns-in-Open-clause-cut
returns-in-Open-clause-cut g c = if_ok _ _ c.go_on.result (λ p never cut. absurd (never cut)) c.go_on.ensures.cut

pub returns-in-Closed-true-clause-tells : goal.returns-in-Closed-true-clause-tells
returns-in-Closed-true-clause-tells g c =
    record {
      ended = λ e. absurd cc;
      no_link = λ link. absurd cc;
      read_failed = tt;
      write_failed = tt;
      idle = λ e. absurd cc;
    }

pub returns-in-Closed-false-clause-tells : goal.returns-in-Closed-false-clause-tells
returns-in-Closed-false-clause-tells g c =
    record {
      ended = search rules;
      no_link = λ link. absurd cc;
      read_failed = tt;
      write_failed = tt;
      idle = λ e. absurd cc;
    }

pub returns-in-Closed-false-clause-cut : goal.returns-in-Closed-false-clause-cut
returns-in-Closed-false-clause-cut g c = λ e. absurd cc

pub returns-in-Failed-clause-moves : goal.returns-in-Failed-clause-moves
returns-in-Failed-clause-moves g c =
    record {
      turns = c.cut.ensures.turns;
      goes = cut_told _ _ _ _ _ _ false _ c.cut.result refl (same_goes _ _ _ refl) c.cut.ensures.cuts;
      unfailed = cut_unfailed _ _ _ _ Progress.Cut c.cut.result c.cut.ensures.cuts;
      due = due_cut _ (Ok Progress.Cut) c.cut.result tt c.cut.ensures.due;
    }

pub returns-in-Failed-clause-tells : goal.returns-in-Failed-clause-tells
returns-in-Failed-clause-tells g c =
    record {
      ended = if_ok _ _ c.cut.result (λ p (is, _) ended. absurd cc) (cut_is _ _ _ _ c.cut.result c.cut.ensures.cuts);
      no_link = if_ok _ _ c.cut.result (λ p (is, _) link. absurd cc) (cut_is _ _ _ _ c.cut.result c.cut.ensures.cuts);
      read_failed = if_err _ _ c.cut.result (λ e turn. turn_unread _ e turn) (cut_turn _ _ _ _ _ c.cut.result c.cut.ensures.cuts);
      write_failed = if_err _ _ c.cut.result (λ e turn. turn_unwritten _ e turn) (cut_turn _ _ _ _ _ c.cut.result c.cut.ensures.cuts);
      idle = if_ok _ _ c.cut.result (λ p (is, _) idle. absurd cc) (cut_is _ _ _ _ c.cut.result c.cut.ensures.cuts);
    }

pub returns-in-Failed-clause-cut : goal.returns-in-Failed-clause-cut
returns-in-Failed-clause-cut g c = if_ok _ _ c.cut.result (λ p (_, stage) _. stage) (cut_is _ _ _ _ c.cut.result c.cut.ensures.cuts)
