use Rattle.std.proofs.lemmas.Result.{IfOk-from_err, err_from_is_err_and}
use Rattle.std.proofs.Common.{◌∙◌, refl, sym, ap}
use Rattle.proxy_devices.specs.Device.{Counts}
use Rattle.proxy_engines.proofs.FaultLemmas.{fault_later, not_late, faulty_not_idle, faulty_calm, no_fault}
use Rattle.proxy_engines.proofs.HostMoves.{some_told}
use Rattle.proxy_engines.proofs.MoveLemmas.{moves-err, any_err}
use Rattle.proxy_engines.proofs.link.Link.receive_in_time.Goals as goal

pub returns-clause-moves : goal.returns-clause-moves
returns-clause-moves g c =
    record {
      turns = c.receive.ensures.moves.turns;
      goes = c.in_ok-received.ensures.moves.goes;
      plain = tt;
    }

pub returns-in_err-received-clause-moves : goal.returns-in_err-received-clause-moves
returns-in_err-received-clause-moves g c =
    record {
      turns = c.receive.ensures.moves.turns;
      goes = moves-err _ c.from_residual.result c.from_residual.ensures.0 c.in_err-received.ensures.moves.goes;
      plain = let (_, result_is, error_is) = err_from_is_err_and c.from_residual.result c.from_residual.ensures.1 in rw (result_is, error_is) c.in_err-received.ensures.moves.plain;
    }

pub returns-then-is_fault-clause-moves : goal.returns-then-is_fault-clause-moves
returns-then-is_fault-clause-moves g c =
    record {
      turns = c.receive.ensures.moves.turns;
      goes = c.in_ok-received.ensures.moves.goes;
      plain = tt;
    }

pub returns-then-is_late-clause-moves : goal.returns-then-is_late-clause-moves
returns-then-is_late-clause-moves g c =
    record {
      turns = c.receive.ensures.moves.turns;
      goes = some_told _ _ c.receive.ensures.moves.goes;
      plain = tt;
    }

pub returns-clause-receives : goal.returns-clause-receives
returns-clause-receives g c =
    record {
      idle = c.in_ok-received.ensures.receives.idle;
      calm = λ calm. record {
        all = (c.in_ok-received.ensures.receives.calm calm).all;
        unfailed = ((c.in_ok-received.ensures.receives.calm calm).reads.0, ap (λ (n : Counts). n.failed) c.receive.ensures.receives.writes);
        in_time = not_late c.receive.new.outbox c.args.moment c.is_late.result c.if-is_late.false c.is_late.ensures;
      };
      fault = no_fault c.in_ok-received.received _ (sym c.is_fault.ensures ∙ c.if-is_fault.false);
      writes = c.receive.ensures.receives.writes;
      err = tt;
    }

pub returns-then-is_fault-clause-receives : goal.returns-then-is_fault-clause-receives
returns-then-is_fault-clause-receives g c =
    record {
      idle = λ idle. faulty_not_idle _ c.in_ok-received.received (sym c.is_fault.ensures ∙ c.if-is_fault.true) idle;
      calm = λ calm. faulty_calm _ c.in_ok-received.received (sym c.is_fault.ensures ∙ c.if-is_fault.true) calm;
      fault = fault_later c.args.self.now c.args.self.now c.receive.new.self _ _ ⊥ _ refl refl (λ x. x) (λ x. absurd x) c.in_ok-received.received c.in_ok-received.ensures.receives.fault;
      writes = c.receive.ensures.receives.writes;
      err = tt;
    }

pub returns-then-is_late-clause-receives : goal.returns-then-is_late-clause-receives
returns-then-is_late-clause-receives g c =
    record {
      idle = λ idle. absurd cc;
      calm = λ calm. absurd cc;
      fault = let calm = sym c.is_fault.ensures ∙ c.if-is_fault.false in
          let (none, all) = (c.in_ok-received.ensures.receives.calm calm).all in
          record { late = c.is_late.ensures.0 c.if-is_late.true; reads = (c.in_ok-received.ensures.receives.calm calm).reads; none_waits = none; all = all };
      writes = c.receive.ensures.receives.writes;
      err = tt;
    }

pub returns-in_err-received-clause-receives : goal.returns-in_err-received-clause-receives
returns-in_err-received-clause-receives g c =
    record {
      idle = IfOk-from_err c.from_residual.result _ c.from_residual.ensures.0;
      calm = IfOk-from_err c.from_residual.result _ c.from_residual.ensures.0;
      fault = IfOk-from_err c.from_residual.result _ c.from_residual.ensures.0;
      writes = c.receive.ensures.receives.writes;
      err = any_err _ c.from_residual.result c.in_err-received.ensures.receives.err;
    }
