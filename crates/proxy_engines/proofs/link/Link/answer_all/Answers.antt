use Rattle.proxy_engines.proofs.OwnHistoryLemmas.{keeps_same, keeps_then}
use Rattle.proxy_devices.specs.Device.{Counts}
use Rattle.proxy_engines.proofs.FaultLemmas.{faulty_calm, default_faulty, fault_later, no_fault}
use Rattle.std.proofs.lemmas.Result.{IfOk-from_err, err_from_is_err_and}
use Rattle.std.proofs.Common.{◌∙◌, refl, ap}
use Rattle.proxy_engines.proofs.HostMoves.{gets_none, gets_then, stays_on, told_idle, told_moved, told_both}
use Rattle.proxy_engines.proofs.MoveLemmas.{moves-err, as_fault, any_err}
use Rattle.proxy_engines.proofs.link.Link.answer_all.Goals as goal

pub loop-init : goal.loop-init
loop-init g c = (stays_on _ _ _ _ _ refl, c.requires.whole, (refl, refl, refl), refl, refl, keeps_same _, gets_none _)

pub loop-preserved : goal.loop-preserved
loop-preserved g c =
    let (goes, _, reads, writes, _, turns, gets) = c.loop.invariant in (
      told_moved _ _ _ _ _ _ _ _ _ _ _ goes (rw c.in-Moved.is at c.in_ok-fault.ensures.moves.goes),
      c.in_ok-fault.ensures.answers.told.moved c.in-Moved.is,
      (c.answer_next.ensures.answers.keeps.0.0 ∙ reads.0, c.answer_next.ensures.answers.keeps.0.1 ∙ reads.1, c.answer_next.ensures.answers.keeps.0.2 ∙ reads.2),
      c.answer_next.ensures.answers.keeps.1 ∙ writes,
      refl,
      keeps_then _ _ _ turns c.answer_next.ensures.moves.turns,
      gets_then _ _ _ gets c.answer_next.ensures.untaken,
    )

pub returns-in_err-fault-clause-moves : goal.returns-in_err-fault-clause-moves
returns-in_err-fault-clause-moves g c =
    record {
      turns = let (_, _, _, _, _, turns, _) = c.loop.invariant in keeps_then _ _ _ turns c.answer_next.ensures.moves.turns;
      goes = let (goes, _, _, _, _, _, _) = c.loop.invariant in
          moves-err _ c.from_residual.result c.from_residual.ensures.0 (told_both _ _ _ _ _ _ _ _ _ _ _ _ goes c.answer_next.ensures.moves.goes);
      plain = let (_, _, _, _, _, turns, _) = c.loop.invariant in
          let (_, result_is, error_is) = err_from_is_err_and c.from_residual.result c.from_residual.ensures.1 in
          rw (result_is, error_is) (rw turns.setting_is at c.in_err-fault.ensures.moves.plain);
    }

pub returns-in_default-clause-moves : goal.returns-in_default-clause-moves
returns-in_default-clause-moves g c =
    record {
      turns = let (_, _, _, _, _, turns, _) = c.loop.invariant in keeps_then _ _ _ turns c.answer_next.ensures.moves.turns;
      goes = let (goes, _, _, _, _, _, _) = c.loop.invariant in
          as_fault _ c.in_ok-fault.fault c.in_default.not-Idle c.in_default.not-Moved (told_both _ _ _ _ _ _ _ _ _ _ _ _ goes c.answer_next.ensures.moves.goes);
      plain = tt;
    }

pub returns-in-Idle-clause-moves : goal.returns-in-Idle-clause-moves
returns-in-Idle-clause-moves g c =
    record {
      turns = let (_, _, _, _, _, turns, _) = c.loop.invariant in keeps_then _ _ _ turns c.answer_next.ensures.moves.turns;
      goes = let (goes, _, _, _, _, _, _) = c.loop.invariant in
          told_idle _ _ _ _ _ _ _ _ _ _ _ goes (rw c.in-Idle.is at c.in_ok-fault.ensures.moves.goes);
      plain = tt;
    }

pub returns-in-Idle-clause-answers : goal.returns-in-Idle-clause-answers
returns-in-Idle-clause-answers g c =
    record {
      all = λ _. c.in_ok-fault.ensures.answers.told.idle c.in-Idle.is;
      fault = let (_, _, _, _, calm, _, _) = c.loop.invariant in no_fault c.loop.outcome _ calm;
      keeps = (let (_, _, reads, _, _, _, _) = c.loop.invariant in (c.answer_next.ensures.answers.keeps.0.0 ∙ reads.0, c.answer_next.ensures.answers.keeps.0.1 ∙ reads.1, c.answer_next.ensures.answers.keeps.0.2 ∙ reads.2), let (_, _, _, writes, _, _, _) = c.loop.invariant in c.answer_next.ensures.answers.keeps.1 ∙ writes);
      err = tt;
    }

pub returns-in_default-clause-answers : goal.returns-in_default-clause-answers
returns-in_default-clause-answers g c =
    record {
      all = λ calm. faulty_calm _ c.in_ok-fault.fault (default_faulty c.in_ok-fault.fault c.in_default.not-Idle c.in_default.not-Moved) calm;
      fault = let (_, _, reads, writes, _, turns, _) = c.loop.invariant in
          fault_later c.args.self.now c.loop.self c.answer_next.new.self _ _ _ _ (ap (λ (n : Counts). n.failed) reads.2) (ap (λ (n : Counts). n.failed) writes) (λ x. x) (λ x. x) c.in_ok-fault.fault (rw turns.setting_is at c.in_ok-fault.ensures.answers.fault);
      keeps = (let (_, _, reads, _, _, _, _) = c.loop.invariant in (c.answer_next.ensures.answers.keeps.0.0 ∙ reads.0, c.answer_next.ensures.answers.keeps.0.1 ∙ reads.1, c.answer_next.ensures.answers.keeps.0.2 ∙ reads.2), let (_, _, _, writes, _, _, _) = c.loop.invariant in c.answer_next.ensures.answers.keeps.1 ∙ writes);
      err = tt;
    }

pub returns-in_err-fault-clause-answers : goal.returns-in_err-fault-clause-answers
returns-in_err-fault-clause-answers g c =
    record {
      all = IfOk-from_err c.from_residual.result _ c.from_residual.ensures.0;
      fault = IfOk-from_err c.from_residual.result _ c.from_residual.ensures.0;
      keeps = (let (_, _, reads, _, _, _, _) = c.loop.invariant in (c.answer_next.ensures.answers.keeps.0.0 ∙ reads.0, c.answer_next.ensures.answers.keeps.0.1 ∙ reads.1, c.answer_next.ensures.answers.keeps.0.2 ∙ reads.2), let (_, _, _, writes, _, _, _) = c.loop.invariant in c.answer_next.ensures.answers.keeps.1 ∙ writes);
      err = any_err _ c.from_residual.result c.in_err-fault.ensures.answers.err;
    }

pub returns-in_err-fault-clause-untaken : goal.returns-in_err-fault-clause-untaken
returns-in_err-fault-clause-untaken g c =
    let (_, _, _, _, _, _, gets) = c.loop.invariant in gets_then _ _ _ gets c.answer_next.ensures.untaken

pub returns-in_default-clause-untaken : goal.returns-in_default-clause-untaken
returns-in_default-clause-untaken g c =
    let (_, _, _, _, _, _, gets) = c.loop.invariant in gets_then _ _ _ gets c.answer_next.ensures.untaken

pub returns-in-Idle-clause-untaken : goal.returns-in-Idle-clause-untaken
returns-in-Idle-clause-untaken g c =
    let (_, _, _, _, _, _, gets) = c.loop.invariant in gets_then _ _ _ gets c.answer_next.ensures.untaken
