use Rattle.proxy_engines.proofs.OwnHistoryLemmas.{keeps_same}
use Rattle.proxy_engines.proofs.MoveLemmas.{moves-err}
use Rattle.proxy_engines.proofs.HostLemmas.{empty_is}
use Rattle.std.proofs.lemmas.Result.{IfOk-from_err, err_from_is_err_and}
use Rattle.std.proofs.Common.{refl, inl, inr, Some}
use Rattle.proxy_engines.proofs.link.Link.send.Goals as goal

pub returns-then-not-is_empty-clause-moves : goal.returns-then-not-is_empty-clause-moves
returns-then-not-is_empty-clause-moves g c =
    record {
      turns = keeps_same _;
      goes = c.write.ensures.goes _ _;
      plain = tt;
    }

pub returns-else-branch-clause-moves : goal.returns-else-branch-clause-moves
returns-else-branch-clause-moves g c =
    record {
      turns = (c.take.ensures.moves (Some c.args.self.now)).turns;
      goes = rw c.if-branch.false at (c.in_ok-take.ensures.moves (Some c.args.self.now)).goes;
      plain = tt;
    }

pub returns-then-branch-clause-moves : goal.returns-then-branch-clause-moves
returns-then-branch-clause-moves g c =
    record {
      turns = (c.take.ensures.moves (Some c.args.self.now)).turns;
      goes = rw c.if-branch.true at (c.in_ok-take.ensures.moves (Some c.args.self.now)).goes;
      plain = tt;
    }

pub returns-in_err-take-clause-moves : goal.returns-in_err-take-clause-moves
returns-in_err-take-clause-moves g c =
    record {
      turns = (c.take.ensures.moves (Some c.args.self.now)).turns;
      goes = moves-err _ c.from_residual.result c.from_residual.ensures.0 (c.in_err-take.ensures.moves _).goes;
      plain = let (_, result_is, error_is) = err_from_is_err_and c.from_residual.result c.from_residual.ensures.1 in rw (result_is, error_is) (c.in_err-take.ensures.moves (Some c.args.self.now)).plain;
    }

pub returns-then-not-is_empty-clause-sends : goal.returns-then-not-is_empty-clause-sends
returns-then-not-is_empty-clause-sends g c =
    record {
      keeps = c.write.ensures.writes.keeps;
      idle = λ idle. inl (c.write.ensures.writes.idle idle).paused;
      writer = c.write.ensures.writes.writer;
      fault = c.write.ensures.writes.fault;
    }

pub returns-in_err-take-clause-sends : goal.returns-in_err-take-clause-sends
returns-in_err-take-clause-sends g c =
    record {
      keeps = (refl, refl);
      idle = IfOk-from_err c.from_residual.result _ c.from_residual.ensures.0;
      writer = IfOk-from_err c.from_residual.result _ c.from_residual.ensures.0;
      fault = IfOk-from_err c.from_residual.result _ c.from_residual.ensures.0;
    }

pub returns-then-branch-clause-sends : goal.returns-then-branch-clause-sends
returns-then-branch-clause-sends g c =
    record {
      keeps = (refl, refl);
      idle = λ idle. absurd cc;
      writer = λ _. refl;
      fault = tt;
    }

pub returns-else-branch-clause-sends : goal.returns-else-branch-clause-sends
returns-else-branch-clause-sends g c =
    record {
      keeps = (refl, refl);
      idle = λ _. inr (empty_is c.args.outbox.now.pending c.is_empty.result c.is_empty.ensures c.if-not-is_empty.false, c.in_ok-take.ensures.nothing_waits c.if-branch.false);
      writer = λ _. refl;
      fault = tt;
    }
