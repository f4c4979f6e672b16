use Rattle.proxy_engines.proofs.OwnHistoryLemmas.{keeps_then}
use Rattle.std.proofs.lemmas.Result.{IfOk-from_err, err_from_is_err_and}
use Rattle.std.proofs.Common.{refl, ◌≡◌, ◌⊎◌, ◌∙◌, [], sym, subst, ap}
use Rattle.proxy_engines.proofs.HostMoves.{told_both, told_either}
use Rattle.proxy_history.specs.declared.event.Event.{Event}
use Rattle.proxy_history.specs.declared.refusal.Refusal.{Refusal}
use Rattle.proxy_devices.specs.Device.{Counts, HasRisen}
use Rattle.proxy_engines.specs.Ends.{InboxState}
use Rattle.proxy_engines.specs.OneTurn.{HasHeld}
use Rattle.proxy_engines.proofs.FaultLemmas.{either_idle, idle_then, late_from, faulty_not_idle, faulty_calm, fault_of_device, fault_later, no_fault}
use Rattle.proxy_engines.proofs.MoveLemmas.{moves-err, as_faulty, any_err}
use Rattle.proxy_engines.proofs.link.Link.step.Goals as goal

pub returns-in_err-received-clause-moves : goal.returns-in_err-received-clause-moves
returns-in_err-received-clause-moves g c =
    record {
      turns = keeps_then _ _ _ c.send.ensures.moves.turns c.receive_in_time.ensures.moves.turns;
      goes = moves-err _ c.from_residual-in_err-received.result c.from_residual-in_err-received.ensures.0 (told_both _ _ _ _ _ _ _ _ _ _ _ _ c.send.ensures.moves.goes c.receive_in_time.ensures.moves.goes);
      plain = let (_, result_is, error_is) = err_from_is_err_and c.from_residual-in_err-received.result c.from_residual-in_err-received.ensures.1 in rw (result_is, error_is) (rw c.send.ensures.moves.turns.setting_is at c.in_err-received.ensures.moves.plain);
    }

pub returns-then-is_fault-2-clause-moves : goal.returns-then-is_fault-2-clause-moves
returns-then-is_fault-2-clause-moves g c =
    record {
      turns = keeps_then _ _ _ c.send.ensures.moves.turns c.receive_in_time.ensures.moves.turns;
      goes = as_faulty _ c.in_ok-received.received (sym c.is_fault-2.ensures ∙ c.if-is_fault-2.true) (told_both _ _ _ _ _ _ _ _ _ _ _ _ c.send.ensures.moves.goes c.receive_in_time.ensures.moves.goes);
      plain = tt;
    }

pub returns-clause-moves : goal.returns-clause-moves
returns-clause-moves g c =
    record {
      turns = keeps_then _ _ _ c.send.ensures.moves.turns c.receive_in_time.ensures.moves.turns;
      goes = rw c.or.ensures.is (told_either _ _ _ _ _ _ _ _ _ _ c.in_ok-sent.sent c.in_ok-received.received c.in_ok-sent.ensures.moves.goes c.in_ok-received.ensures.moves.goes);
      plain = tt;
    }

pub returns-in_err-sent-clause-moves : goal.returns-in_err-sent-clause-moves
returns-in_err-sent-clause-moves g c =
    record {
      turns = c.send.ensures.moves.turns;
      goes = moves-err _ c.from_residual.result c.from_residual.ensures.0 c.in_err-sent.ensures.moves.goes;
      plain = let (_, result_is, error_is) = err_from_is_err_and c.from_residual.result c.from_residual.ensures.1 in rw (result_is, error_is) c.in_err-sent.ensures.moves.plain;
    }

pub returns-then-is_fault-clause-moves : goal.returns-then-is_fault-clause-moves
returns-then-is_fault-clause-moves g c =
    record {
      turns = c.send.ensures.moves.turns;
      goes = c.in_ok-sent.ensures.moves.goes;
      plain = tt;
    }

pub returns-clause-works : goal.returns-clause-works
returns-clause-works g c =
    record {
      idle = λ e.
          let both = either_idle c.in_ok-sent.sent c.in_ok-received.received (sym c.or.ensures.is ∙ e) in
          let sent = c.in_ok-sent.ensures.sends.idle both.0 in
          let received = c.in_ok-received.ensures.receives.idle both.1 in (
            subst (λ (i : InboxState). HasRisen i.counts.paused c.receive_in_time.new.self.inbox.counts.paused) c.send.ensures.sends.keeps.0 received,
            subst (λ (n : Counts). HasRisen c.args.self.now.counts.paused n.paused ⊎ ((c.args.outbox.now.pending ≡ []) × HasHeld (g.T.Turns.cause (g.T.Turns.facts c.args.turns.now).setting Refusal.NothingWaiting) (Event.Taken c.args.outbox.now.host) (g.T.Turns.facts c.args.turns.now).seen (g.T.Turns.facts c.receive_in_time.new.turns).seen)) (sym c.receive_in_time.ensures.receives.writes)
                (idle_then (g.T.Turns.cause (g.T.Turns.facts c.args.turns.now).setting Refusal.NothingWaiting) (Event.Taken c.args.outbox.now.host) _ _ _ _ _ c.send.ensures.moves.turns.begins c.receive_in_time.ensures.moves.turns.begins sent),
          );
      calm = λ _.
          let calm = c.in_ok-received.ensures.receives.calm (sym c.is_fault-2.ensures ∙ c.if-is_fault-2.false) in record {
            all = calm.all;
            unfailed = (rw c.send.ensures.sends.keeps.0 at calm.unfailed.0, ap (λ (n : Counts). n.failed) c.receive_in_time.ensures.receives.writes ∙ c.in_ok-sent.ensures.sends.writer (sym c.is_fault.ensures ∙ c.if-is_fault.false));
            in_time = calm.in_time;
          };
      fault = no_fault c.or.result _ (c.or.ensures.calm (sym c.is_fault.ensures ∙ c.if-is_fault.false) (sym c.is_fault-2.ensures ∙ c.if-is_fault-2.false));
      err = tt;
    }

pub returns-then-is_fault-clause-works : goal.returns-then-is_fault-clause-works
returns-then-is_fault-clause-works g c =
    record {
      idle = λ idle. faulty_not_idle _ c.in_ok-sent.sent (sym c.is_fault.ensures ∙ c.if-is_fault.true) idle;
      calm = λ calm. faulty_calm _ c.in_ok-sent.sent (sym c.is_fault.ensures ∙ c.if-is_fault.true) calm;
      fault = fault_of_device c.args.self.now c.args.self.now c.send.new.self _ _ refl refl c.in_ok-sent.sent c.in_ok-sent.ensures.sends.fault;
      err = tt;
    }

pub returns-then-is_fault-2-clause-works : goal.returns-then-is_fault-2-clause-works
returns-then-is_fault-2-clause-works g c =
    record {
      idle = λ idle. faulty_not_idle _ c.in_ok-received.received (sym c.is_fault-2.ensures ∙ c.if-is_fault-2.true) idle;
      calm = λ calm. faulty_calm _ c.in_ok-received.received (sym c.is_fault-2.ensures ∙ c.if-is_fault-2.true) calm;
      fault = fault_later c.args.self.now c.send.new.self c.receive_in_time.new.self _ _ _ _ (ap (λ (i : InboxState). i.counts.failed) c.send.ensures.sends.keeps.0) (c.in_ok-sent.ensures.sends.writer (sym c.is_fault.ensures ∙ c.if-is_fault.false)) (λ x. x) (late_from c.args.self.now c.send.new.self c.receive_in_time.new.self c.receive_in_time.new.outbox c.args.moment c.send.ensures.sends.keeps.0) c.in_ok-received.received (rw c.send.ensures.moves.turns.setting_is at c.in_ok-received.ensures.receives.fault);
      err = tt;
    }

pub returns-in_err-sent-clause-works : goal.returns-in_err-sent-clause-works
returns-in_err-sent-clause-works g c =
    record {
      idle = IfOk-from_err c.from_residual.result _ c.from_residual.ensures.0;
      calm = IfOk-from_err c.from_residual.result _ c.from_residual.ensures.0;
      fault = IfOk-from_err c.from_residual.result _ c.from_residual.ensures.0;
      err = any_err _ c.from_residual.result (ap (λ (i : InboxState). i.values.refusal) c.send.ensures.sends.keeps.0 ∙ c.requires.whole);
    }

pub returns-in_err-received-clause-works : goal.returns-in_err-received-clause-works
returns-in_err-received-clause-works g c =
    record {
      idle = IfOk-from_err c.from_residual-in_err-received.result _ c.from_residual-in_err-received.ensures.0;
      calm = IfOk-from_err c.from_residual-in_err-received.result _ c.from_residual-in_err-received.ensures.0;
      fault = IfOk-from_err c.from_residual-in_err-received.result _ c.from_residual-in_err-received.ensures.0;
      err = any_err _ c.from_residual-in_err-received.result c.in_err-received.ensures.receives.err;
    }
