use Rattle.proxy_engines.proofs.OwnHistoryLemmas.{keeps_then}
use Rattle.proxy_engines.specs.Moves.{told_by_step}
use Rattle.std.proofs.lemmas.Result.{IfOk-from_err, err_from_is_err_and}
use Rattle.proxy_engines.proofs.AnswerLemmas.{if_ok, if_err, on_ok, idle_for, not_ended, not_cut, not_link, still_not_ended, still_not_cut, still_not_link, end_is, end_not_cut, end_not_link, turn_unread, turn_unwritten, write_unread, write_is, read_unwritten, read_is}
use Rattle.std.proofs.Common.{◌≡◌, ◌∙◌, [], ap, sym, refl, inl}
use Rattle.proxy_engines.specs.Client.{Client}
use Rattle.proxy_engines.proofs.ClientMoves.{told_then}
use Rattle.proxy_engines.proofs.HostLemmas.{empty_is}
use Rattle.proxy_engines.proofs.IdleLemmas.{idle_open, idle_finishing}
use Rattle.proxy_engines.proofs.MoveLemmas.{step-err}
use Rattle.proxy_engines.proofs.client.ClientEngine.go_on.Goals as goal

pub returns-in-Open-clause-tells : goal.returns-in-Open-clause-tells
returns-in-Open-clause-tells g c =
    record {
      ended = if_ok _ _ c.take_in.result (λ p h. still_not_ended _ p h.1) c.take_in.ensures.takes.ok;
      no_link = if_ok _ _ c.take_in.result (λ p h. still_not_link p h.1) c.take_in.ensures.takes.ok;
      read_failed = read_is _ _ c.take_in.result (rw ((c.in_ok-hand_if_due.ensures.hands.nothing c.if-branch.false).0) at c.take_in.ensures.takes.err);
      write_failed = read_unwritten _ _ _ c.take_in.result c.take_in.ensures.takes.err;
      idle = let empty : c.args.self.now.outbox.pending ≡ [] = ap (λ (e : Client). e.outbox.pending) (sym c.self.view_is) ∙ empty_is c.self.inside.outbox.pending c.is_empty.result c.is_empty.ensures c.if-not-is_empty.false in
          let nothing = (c.in_ok-hand_if_due.ensures.hands.nothing c.if-branch.false).1 in
          if_ok _ _ c.take_in.result (λ p still e. idle_open (g.T.Turns.cause (g.T.Turns.facts c.args.turns.now).setting) c.args.self.now c.take_in.new.self _ _ _ c.hand_if_due.ensures.moves.turns.begins c.take_in.ensures.moves.turns.begins empty nothing (still e))
          (rw ((c.in_ok-hand_if_due.ensures.hands.nothing c.if-branch.false).0) at (rw c.hand_if_due.ensures.moves.turns.setting_is at c.take_in.ensures.takes.idle));
    }

pub returns-in_default-clause-tells : goal.returns-in_default-clause-tells
returns-in_default-clause-tells g c =
    record {
      ended = if_ok _ _ c.end.result (λ p h. end_is _ p h) c.end.ensures.ends.ok;
      no_link = if_ok _ _ c.end.result (λ p h. end_not_link _ p h) c.end.ensures.ends.ok;
      read_failed = if_err _ _ c.end.result (λ e turn. turn_unread _ e turn) c.end.ensures.ends.err;
      write_failed = if_err _ _ c.end.result (λ e turn. turn_unwritten _ e turn) c.end.ensures.ends.err;
      idle = let empty : c.args.self.now.outbox.pending ≡ [] = ap (λ (e : Client). e.outbox.pending) (sym c.self.view_is) ∙ empty_is c.self.inside.outbox.pending c.is_empty.result c.is_empty.ensures c.if-not-is_empty.false in
          let nothing = (c.in_ok-hand_if_due.ensures.hands.nothing c.if-branch.false).1 in
          if_ok _ _ c.end.result (λ p still e. idle_finishing (g.T.Turns.cause (g.T.Turns.facts c.args.turns.now).setting) c.args.self.now c.end.new.self _ _ _ c.hand_if_due.ensures.moves.turns.begins c.end.ensures.moves.turns.begins empty nothing (still e)) c.end.ensures.ends.idle;
    }

pub returns-then-not-is_empty-clause-moves : goal.returns-then-not-is_empty-clause-moves
returns-then-not-is_empty-clause-moves g c = c.write.ensures.moves

pub returns-in_err-hand_if_due-clause-moves : goal.returns-in_err-hand_if_due-clause-moves
returns-in_err-hand_if_due-clause-moves g c =
    record {
      turns = c.hand_if_due.ensures.moves.turns;
      goes = step-err _ c.from_residual.result c.from_residual.ensures.0 c.in_err-hand_if_due.ensures.moves.goes;
      unfailed = IfOk-from_err c.from_residual.result _ c.from_residual.ensures.0;
      due = let (_, result_is, error_is) = err_from_is_err_and c.from_residual.result c.from_residual.ensures.1 in rw (result_is, error_is) c.in_err-hand_if_due.ensures.moves.due;
    }

pub returns-then-branch-clause-moves : goal.returns-then-branch-clause-moves
returns-then-branch-clause-moves g c =
    record {
      turns = c.hand_if_due.ensures.moves.turns;
      goes = rw c.if-branch.true at c.in_ok-hand_if_due.ensures.moves.goes;
      unfailed = c.in_ok-hand_if_due.ensures.moves.unfailed;
      due = tt;
    }

pub returns-in-Open-clause-moves : goal.returns-in-Open-clause-moves
returns-in-Open-clause-moves g c =
    record {
      turns = keeps_then _ _ _ c.hand_if_due.ensures.moves.turns c.take_in.ensures.moves.turns;
      goes = told_then _ _ _ _ _ _ (told_by_step c.take_in.result) (rw c.if-branch.false at c.in_ok-hand_if_due.ensures.moves.goes) c.take_in.ensures.moves.goes;
      unfailed = rw ((c.in_ok-hand_if_due.ensures.hands.nothing c.if-branch.false).0) at c.take_in.ensures.moves.unfailed;
      due = rw c.hand_if_due.ensures.moves.turns.setting_is at c.take_in.ensures.moves.due;
    }

pub returns-in_default-clause-moves : goal.returns-in_default-clause-moves
returns-in_default-clause-moves g c =
    record {
      turns = keeps_then _ _ _ c.hand_if_due.ensures.moves.turns c.end.ensures.moves.turns;
      goes = told_then _ _ _ _ _ _ (told_by_step c.end.result) (rw c.if-branch.false at c.in_ok-hand_if_due.ensures.moves.goes) c.end.ensures.moves.goes;
      unfailed = rw ((c.in_ok-hand_if_due.ensures.hands.nothing c.if-branch.false).0) at c.end.ensures.moves.unfailed;
      due = rw c.hand_if_due.ensures.moves.turns.setting_is at c.end.ensures.moves.due;
    }

pub returns-then-branch-clause-tells : goal.returns-then-branch-clause-tells
returns-then-branch-clause-tells g c =
    record {
      ended = λ ended. absurd cc;
      no_link = λ link. absurd cc;
      read_failed = tt;
      write_failed = tt;
      idle = λ idle. absurd cc;
    }

pub returns-then-not-is_empty-clause-tells : goal.returns-then-not-is_empty-clause-tells
returns-then-not-is_empty-clause-tells g c =
    record {
      ended = if_ok _ _ c.write.result (λ p h. not_ended _ _ p h.1) c.write.ensures.writes.ok;
      no_link = if_ok _ _ c.write.result (λ p h. not_link _ p h.1) c.write.ensures.writes.ok;
      read_failed = write_unread _ _ _ c.write.result c.write.ensures.writes.err;
      write_failed = write_is _ _ c.write.result c.write.ensures.writes.err;
      idle = if_ok _ _ c.write.result (λ p h idle. inl (idle_for _ p h.1 idle)) c.write.ensures.writes.ok;
    }

pub returns-then-not-is_empty-clause-cut : goal.returns-then-not-is_empty-clause-cut
returns-then-not-is_empty-clause-cut g c = if_ok _ _ c.write.result (λ p h. not_cut _ p h.1) c.write.ensures.writes.ok

pub returns-in_err-hand_if_due-clause-tells : goal.returns-in_err-hand_if_due-clause-tells
returns-in_err-hand_if_due-clause-tells g c =
    record {
      ended = IfOk-from_err c.from_residual.result _ c.from_residual.ensures.0;
      no_link = IfOk-from_err c.from_residual.result _ c.from_residual.ensures.0;
      read_failed = let (_, result_is, error_is) = err_from_is_err_and c.from_residual.result c.from_residual.ensures.1 in rw (result_is, error_is) (turn_unread _ _ c.in_err-hand_if_due.ensures.hands.err.1);
      write_failed = let (_, result_is, error_is) = err_from_is_err_and c.from_residual.result c.from_residual.ensures.1 in rw (result_is, error_is) (turn_unwritten _ _ c.in_err-hand_if_due.ensures.hands.err.1);
      idle = IfOk-from_err c.from_residual.result _ c.from_residual.ensures.0;
    }

pub returns-in_err-hand_if_due-clause-cut : goal.returns-in_err-hand_if_due-clause-cut
returns-in_err-hand_if_due-clause-cut g c = IfOk-from_err c.from_residual.result _ c.from_residual.ensures.0

pub returns-then-branch-clause-cut : goal.returns-then-branch-clause-cut
returns-then-branch-clause-cut g c = λ cut. absurd cc

pub returns-in-AtEnd-clause-moves : goal.returns-in-AtEnd-clause-moves
returns-in-AtEnd-clause-moves g c =
    record {
      turns = keeps_then _ _ _ c.hand_if_due.ensures.moves.turns c.finish.ensures.moves.turns;
      goes = told_then _ _ _ _ _ _ (told_by_step c.finish.result) (rw c.if-branch.false at c.in_ok-hand_if_due.ensures.moves.goes) c.finish.ensures.moves.goes;
      unfailed = on_ok _ _ c.finish.result (λ p (_, new). rw (new, (c.in_ok-hand_if_due.ensures.hands.nothing c.if-branch.false).0) (refl, refl)) c.finish.ensures.ok;
      due = rw c.hand_if_due.ensures.moves.turns.setting_is at c.finish.ensures.moves.due;
    }

pub returns-in-Open-clause-cut : goal.returns-in-Open-clause-cut
returns-in-Open-clause-cut g c = if_ok _ _ c.take_in.result (λ p h. still_not_cut p h.1) c.take_in.ensures.takes.ok

pub returns-in-AtEnd-clause-tells : goal.returns-in-AtEnd-clause-tells
returns-in-AtEnd-clause-tells g c =
    record {
      ended = if_ok _ _ c.finish.result (λ p h. still_not_ended _ p (inl h.0)) c.finish.ensures.ok;
      no_link = if_ok _ _ c.finish.result (λ p h. still_not_link p (inl h.0)) c.finish.ensures.ok;
      read_failed = if_err _ _ c.finish.result (λ e (_, _, turn). turn_unread _ e turn) c.finish.ensures.err;
      write_failed = if_err _ _ c.finish.result (λ e (_, _, turn). turn_unwritten _ e turn) c.finish.ensures.err;
      idle = if_ok _ _ c.finish.result (λ p (moved, _) idle. absurd cc) c.finish.ensures.ok;
    }

pub returns-in-AtEnd-clause-cut : goal.returns-in-AtEnd-clause-cut
returns-in-AtEnd-clause-cut g c = if_ok _ _ c.finish.result (λ p h. still_not_cut p (inl h.0)) c.finish.ensures.ok

pub returns-in_default-clause-cut : goal.returns-in_default-clause-cut
returns-in_default-clause-cut g c = if_ok _ _ c.end.result (λ p h. end_not_cut _ p h) c.end.ensures.ends.ok
