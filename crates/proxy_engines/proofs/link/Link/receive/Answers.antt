use Rattle.proxy_engines.proofs.OwnHistoryLemmas.{keeps_then}
use Rattle.proxy_devices.specs.Device.{Counts}
use Rattle.std.proofs.lemmas.Result.{IfOk-from_err, err_from_is_err_and}
use Rattle.std.proofs.Common.{◌∙◌, Some, sym, ap}
use Rattle.proxy_engines.proofs.HostMoves.{gets_then, told_both, told_either}
use Rattle.proxy_engines.proofs.FaultLemmas.{fault_later, fault_of_device, read_kept, either_idle, faulty_not_idle, faulty_calm, no_fault}
use Rattle.proxy_engines.proofs.MoveLemmas.{moves-err, as_faulty, any_err}
use Rattle.proxy_engines.proofs.link.Link.receive.Goals as goal

pub returns-then-is_fault-2-clause-moves : goal.returns-then-is_fault-2-clause-moves
returns-then-is_fault-2-clause-moves g c =
    record {
      turns = c.answer_all.ensures.moves.turns;
      goes = as_faulty _ c.read-heard.result (sym c.is_fault-2.ensures ∙ c.if-is_fault-2.true) (told_both _ _ _ _ _ _ _ _ _ _ _ _ c.answer_all.ensures.moves.goes (c.read-heard.ensures.goes _ _ _));
      plain = tt;
    }

pub returns-in_err-after-clause-moves : goal.returns-in_err-after-clause-moves
returns-in_err-after-clause-moves g c =
    record {
      turns = keeps_then _ _ _ c.answer_all.ensures.moves.turns c.answer_all-2.ensures.moves.turns;
      goes = let heard = told_both _ _ _ _ _ _ _ _ _ _ _ _ c.answer_all.ensures.moves.goes (c.read-heard.ensures.goes _ _ _) in
          moves-err _ c.from_residual-in_err-after.result c.from_residual-in_err-after.ensures.0 (told_both _ _ _ _ _ _ _ _ _ _ (Some heard.0) _ heard.1 c.answer_all-2.ensures.moves.goes);
      plain = let (_, result_is, error_is) = err_from_is_err_and c.from_residual-in_err-after.result c.from_residual-in_err-after.ensures.1 in rw (result_is, error_is) (rw c.answer_all.ensures.moves.turns.setting_is at c.in_err-after.ensures.moves.plain);
    }

pub returns-then-is_fault-3-clause-moves : goal.returns-then-is_fault-3-clause-moves
returns-then-is_fault-3-clause-moves g c =
    record {
      turns = keeps_then _ _ _ c.answer_all.ensures.moves.turns c.answer_all-2.ensures.moves.turns;
      goes = let heard = told_both _ _ _ _ _ _ _ _ _ _ _ _ c.answer_all.ensures.moves.goes (c.read-heard.ensures.goes _ _ _) in
          as_faulty _ c.in_ok-after.after (sym c.is_fault-3.ensures ∙ c.if-is_fault-3.true) (told_both _ _ _ _ _ _ _ _ _ _ (Some heard.0) _ heard.1 c.answer_all-2.ensures.moves.goes);
      plain = tt;
    }

pub returns-clause-moves : goal.returns-clause-moves
returns-clause-moves g c =
    record {
      turns = keeps_then _ _ _ c.answer_all.ensures.moves.turns c.answer_all-2.ensures.moves.turns;
      goes = rw (c.or-2.ensures.is, c.or.ensures.is)
          (told_either _ _ _ _ _ _ _ _ _ _ _ c.in_ok-after.after (told_either _ _ _ _ _ _ _ _ _ _ c.in_ok-before.before c.read-heard.result c.in_ok-before.ensures.moves.goes (c.read-heard.ensures.goes _ _ _))
          c.in_ok-after.ensures.moves.goes);
      plain = tt;
    }

pub returns-in_err-before-clause-moves : goal.returns-in_err-before-clause-moves
returns-in_err-before-clause-moves g c =
    record {
      turns = c.answer_all.ensures.moves.turns;
      goes = moves-err _ c.from_residual.result c.from_residual.ensures.0 c.in_err-before.ensures.moves.goes;
      plain = let (_, result_is, error_is) = err_from_is_err_and c.from_residual.result c.from_residual.ensures.1 in rw (result_is, error_is) c.in_err-before.ensures.moves.plain;
    }

pub returns-then-is_fault-clause-moves : goal.returns-then-is_fault-clause-moves
returns-then-is_fault-clause-moves g c =
    record {
      turns = c.answer_all.ensures.moves.turns;
      goes = c.in_ok-before.ensures.moves.goes;
      plain = tt;
    }

pub returns-then-is_fault-2-clause-receives : goal.returns-then-is_fault-2-clause-receives
returns-then-is_fault-2-clause-receives g c =
    record {
      idle = λ idle. faulty_not_idle _ c.read-heard.result (sym c.is_fault-2.ensures ∙ c.if-is_fault-2.true) idle;
      calm = λ calm. faulty_calm _ c.read-heard.result (sym c.is_fault-2.ensures ∙ c.if-is_fault-2.true) calm;
      fault = fault_of_device c.args.self.now c.answer_all.new.self c.read-heard.new.self _ _ (ap (λ (n : Counts). n.failed) c.answer_all.ensures.answers.keeps.0.2) (ap (λ (n : Counts). n.failed) c.answer_all.ensures.answers.keeps.1) c.read-heard.result c.read-heard.ensures.reads.fault;
      writes = c.read-heard.ensures.reads.keeps.1 ∙ c.answer_all.ensures.answers.keeps.1;
      err = tt;
    }

pub returns-clause-receives : goal.returns-clause-receives
returns-clause-receives g c =
    record {
      idle = λ e.
          let last = either_idle c.or.result c.in_ok-after.after (sym c.or-2.ensures.is ∙ e) in
          let first = either_idle c.in_ok-before.before c.read-heard.result (sym c.or.ensures.is ∙ last.0) in
          let idle = c.read-heard.ensures.reads.idle first.1 in
          rw c.answer_all-2.ensures.answers.keeps.0.2 (rw c.answer_all.ensures.answers.keeps.0.2 at idle.paused);
      calm = λ calm. record {
        all = c.in_ok-after.ensures.answers.all (sym c.is_fault-3.ensures ∙ c.if-is_fault-3.false);
        reads = read_kept c.args.self.now.inbox c.answer_all.new.self.inbox c.read-heard.new.self.inbox c.answer_all-2.new.self.inbox c.answer_all.ensures.answers.keeps.0 c.answer_all-2.ensures.answers.keeps.0 (c.read-heard.ensures.reads.reads (sym c.is_fault-2.ensures ∙ c.if-is_fault-2.false));
      };
      fault = no_fault c.or-2.result _ (c.or-2.ensures.calm (c.or.ensures.calm (sym c.is_fault.ensures ∙ c.if-is_fault.false) (sym c.is_fault-2.ensures ∙ c.if-is_fault-2.false)) (sym c.is_fault-3.ensures ∙ c.if-is_fault-3.false));
      writes = c.answer_all-2.ensures.answers.keeps.1 ∙ c.read-heard.ensures.reads.keeps.1 ∙ c.answer_all.ensures.answers.keeps.1;
      err = tt;
    }

pub returns-then-is_fault-clause-receives : goal.returns-then-is_fault-clause-receives
returns-then-is_fault-clause-receives g c =
    record {
      idle = λ idle. faulty_not_idle _ c.in_ok-before.before (sym c.is_fault.ensures ∙ c.if-is_fault.true) idle;
      calm = λ calm. faulty_calm _ c.in_ok-before.before (sym c.is_fault.ensures ∙ c.if-is_fault.true) calm;
      fault = c.in_ok-before.ensures.answers.fault;
      writes = c.answer_all.ensures.answers.keeps.1;
      err = tt;
    }

pub returns-then-is_fault-3-clause-receives : goal.returns-then-is_fault-3-clause-receives
returns-then-is_fault-3-clause-receives g c =
    record {
      idle = λ idle. faulty_not_idle _ c.in_ok-after.after (sym c.is_fault-3.ensures ∙ c.if-is_fault-3.true) idle;
      calm = λ calm. faulty_calm _ c.in_ok-after.after (sym c.is_fault-3.ensures ∙ c.if-is_fault-3.true) calm;
      fault = fault_later c.args.self.now c.read-heard.new.self c.answer_all-2.new.self _ _ _ _ ((c.read-heard.ensures.reads.reads (sym c.is_fault-2.ensures ∙ c.if-is_fault-2.false)).0 ∙ ap (λ (n : Counts). n.failed) c.answer_all.ensures.answers.keeps.0.2) (ap (λ (n : Counts). n.failed) (c.read-heard.ensures.reads.keeps.1 ∙ c.answer_all.ensures.answers.keeps.1)) (λ x. x) (λ x. x) c.in_ok-after.after (rw c.answer_all.ensures.moves.turns.setting_is at c.in_ok-after.ensures.answers.fault);
      writes = c.answer_all-2.ensures.answers.keeps.1 ∙ c.read-heard.ensures.reads.keeps.1 ∙ c.answer_all.ensures.answers.keeps.1;
      err = tt;
    }

pub returns-in_err-before-clause-receives : goal.returns-in_err-before-clause-receives
returns-in_err-before-clause-receives g c =
    record {
      idle = IfOk-from_err c.from_residual.result _ c.from_residual.ensures.0;
      calm = IfOk-from_err c.from_residual.result _ c.from_residual.ensures.0;
      fault = IfOk-from_err c.from_residual.result _ c.from_residual.ensures.0;
      writes = c.answer_all.ensures.answers.keeps.1;
      err = any_err _ c.from_residual.result c.in_err-before.ensures.answers.err;
    }

pub returns-in_err-after-clause-receives : goal.returns-in_err-after-clause-receives
returns-in_err-after-clause-receives g c =
    record {
      idle = IfOk-from_err c.from_residual-in_err-after.result _ c.from_residual-in_err-after.ensures.0;
      calm = IfOk-from_err c.from_residual-in_err-after.result _ c.from_residual-in_err-after.ensures.0;
      fault = IfOk-from_err c.from_residual-in_err-after.result _ c.from_residual-in_err-after.ensures.0;
      writes = c.answer_all-2.ensures.answers.keeps.1 ∙ c.read-heard.ensures.reads.keeps.1 ∙ c.answer_all.ensures.answers.keeps.1;
      err = any_err _ c.from_residual-in_err-after.result c.in_err-after.ensures.answers.err;
    }

pub returns-in_err-before-clause-untaken : goal.returns-in_err-before-clause-untaken
returns-in_err-before-clause-untaken g c = c.answer_all.ensures.untaken

pub returns-then-is_fault-clause-untaken : goal.returns-then-is_fault-clause-untaken
returns-then-is_fault-clause-untaken g c = c.answer_all.ensures.untaken

pub returns-then-is_fault-2-clause-untaken : goal.returns-then-is_fault-2-clause-untaken
returns-then-is_fault-2-clause-untaken g c = c.answer_all.ensures.untaken

pub returns-in_err-after-clause-untaken : goal.returns-in_err-after-clause-untaken
returns-in_err-after-clause-untaken g c = gets_then _ _ _ c.answer_all.ensures.untaken c.answer_all-2.ensures.untaken

pub returns-then-is_fault-3-clause-untaken : goal.returns-then-is_fault-3-clause-untaken
returns-then-is_fault-3-clause-untaken g c = gets_then _ _ _ c.answer_all.ensures.untaken c.answer_all-2.ensures.untaken

pub returns-clause-untaken : goal.returns-clause-untaken
returns-clause-untaken g c = gets_then _ _ _ c.answer_all.ensures.untaken c.answer_all-2.ensures.untaken
