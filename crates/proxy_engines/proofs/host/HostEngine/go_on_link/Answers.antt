use Rattle.proxy_engines.proofs.OwnHistoryLemmas.{keeps_then}
use Rattle.proxy_engines.specs.Ends.{HasGivenAll}
use Rattle.std.proofs.Common.{◌≡◌, None, Some, true, false, ap, refl, ◌∙◌}
use Rattle.std.proofs.lemmas.Result.{err_from_is_err_and, IfOk-from_err}
use Rattle.proxy_history.specs.declared.refusal.Refusal.{Refusal}
use Rattle.proxy_engines.specs.Faults.{HasNoFaultOn, told_by_moves}
use Rattle.proxy_engines.specs.HostStep.{HostState}
use Rattle.proxy_engines.proofs.HostMoves.{some_told}
use Rattle.proxy_engines.proofs.HostLemmas.{works_on, unasked_here, works_told, told_needs, told_answered, told_unlinked, told_recorded, told_in_time, told_moved}
use Rattle.proxy_engines.proofs.FaultLemmas.{cause_due}
use Rattle.proxy_engines.proofs.RefusalLemmas.{due_cut}
use Rattle.proxy_engines.proofs.host.HostEngine.go_on_link.Goals as goal

pub returns-in_err-step : goal.returns-in_err-step
returns-in_err-step g c =
    record {
      moves = record {
        turns = c.step.ensures.moves.turns;
        works = let (_, result_is, error_is) = err_from_is_err_and c.from_residual.result c.from_residual.ensures.1 in
            let went = c.in_err-step.ensures.moves.goes in
            rw (result_is, error_is, ← c.self.view_is, c.in-Some.is)
            (works_on _ _ _ _ _ c.args.moment went.0 _ went.1 c.in_err-step.ensures.moves.plain.0 (rw (← c.self.view_is) at c.requires.no_fault));
        due = let (_, result_is, error_is) = err_from_is_err_and c.from_residual.result c.from_residual.ensures.1 in rw (result_is, error_is) c.in_err-step.ensures.moves.plain.1;
        tells = record {
          recorded = IfOk-from_err c.from_residual.result _ c.from_residual.ensures.0;
          unfailed = IfOk-from_err c.from_residual.result _ c.from_residual.ensures.0;
          in_time = IfOk-from_err c.from_residual.result _ c.from_residual.ensures.0;
          idle = IfOk-from_err c.from_residual.result _ c.from_residual.ensures.0;
          needs_link = IfOk-from_err c.from_residual.result _ c.from_residual.ensures.0;
          answered = IfOk-from_err c.from_residual.result _ c.from_residual.ensures.0;
        };
      };
    }

pub returns-in-Idle : goal.returns-in-Idle
returns-in-Idle g c =
    record {
      moves = record {
        turns = c.step.ensures.moves.turns;
        works = let goes = rw c.in-Idle.is at c.in_ok-step.ensures.moves.goes in
            rw (← c.self.view_is, c.in-Some.is) (works_on _ _ _ _ _ c.args.moment false _ goes refl (rw (← c.self.view_is) at c.requires.no_fault));
        due = tt;
        tells = record {
          recorded = ap (λ (h : HostState). h.fault) c.self.view_is ∙ c.requires.no_fault;
          unfailed = rw (← c.self.view_is, c.in-Some.is) ((c.in_ok-step.ensures.works.calm (rw c.in-Idle.is refl)).unfailed);
          in_time = (c.in_ok-step.ensures.works.calm (rw c.in-Idle.is refl)).in_time;
          idle = λ _. rw (← c.self.view_is, c.in-Some.is) (c.in_ok-step.ensures.works.idle c.in-Idle.is);
          needs_link = ((λ needs. absurd cc), (λ both. let none = both.0 in absurd cc));
          answered = λ _. rw (← c.self.view_is, c.in-Some.is) ((c.in_ok-step.ensures.works.calm (rw c.in-Idle.is refl)).all);
        };
      };
    }

pub returns-in-Moved : goal.returns-in-Moved
returns-in-Moved g c =
    record {
      moves = record {
        turns = c.step.ensures.moves.turns;
        works = let goes = rw c.in-Moved.is at c.in_ok-step.ensures.moves.goes in
            rw (← c.self.view_is, c.in-Some.is) (works_on _ _ _ _ _ c.args.moment true _ goes refl (rw (← c.self.view_is) at c.requires.no_fault));
        due = tt;
        tells = record {
          recorded = ap (λ (h : HostState). h.fault) c.self.view_is ∙ c.requires.no_fault;
          unfailed = rw (← c.self.view_is, c.in-Some.is) ((c.in_ok-step.ensures.works.calm (rw c.in-Moved.is refl)).unfailed);
          in_time = (c.in_ok-step.ensures.works.calm (rw c.in-Moved.is refl)).in_time;
          idle = λ idle. absurd cc;
          needs_link = ((λ needs. absurd cc), (λ both. let none = both.0 in absurd cc));
          answered = λ _. rw (← c.self.view_is, c.in-Some.is) ((c.in_ok-step.ensures.works.calm (rw c.in-Moved.is refl)).all);
        };
      };
    }

pub returns-in-Fault : goal.returns-in-Fault
returns-in-Fault g c =
    record {
      moves = record {
        turns = keeps_then _ _ _ c.step.ensures.moves.turns c.tell_fault.ensures.turns;
        works = let went = some_told _ (told_by_moves c.step.result) c.step.ensures.moves.goes in
            let cause = unasked_here (g.T.Turns.cause (g.T.Turns.facts c.args.turns.now).setting Refusal.Unasked) (g.T.Turns.facts c.args.turns.now).seen (g.T.Turns.facts c.step.new.turns).seen (g.T.Turns.facts c.tell_fault.new.turns).seen c.args.moment c.step.ensures.moves.turns.begins c.tell_fault.ensures.turns.begins c.in-Fault.kind c.in-Fault.error c.step.new.outbox c.in-Some.link c.step.new.self (rw c.in-Fault.is at c.in_ok-step.ensures.works.fault) in
            rw (← c.self.view_is, c.in-Some.is)
            (works_told _ _ (record { outbox = c.step.new.outbox; link = Some c.step.new.self; fault = Some c.in-Fault.kind; last_fault = Some c.of.result }) c.tell_fault.new.self c.in-Fault.kind c.in-Fault.error _ _ _ c.args.moment went.0 _ went.1
            c.tell_fault.ensures.tells cause);
        due = let cause = rw c.in-Fault.is at c.in_ok-step.ensures.works.fault in
            due_cut _ _ c.tell_fault.result (cause_due (g.T.Turns.cause (g.T.Turns.facts c.args.turns.now).setting) (g.T.Turns.facts c.tell_fault.new.turns).seen c.tell_fault.new.self.outbox c.in-Fault.kind c.in-Fault.error c.in-Some.link c.step.new.self _ _ cause) (rw c.step.ensures.moves.turns.setting_is at c.tell_fault.ensures.due);
        tells = record {
          recorded = told_recorded _ _ _ _ _ _ _ c.tell_fault.result c.tell_fault.ensures.tells;
          unfailed = told_unlinked _ _ _ _ _ _ HasNoFaultOn c.args.self.now.link _ c.tell_fault.result c.tell_fault.ensures.tells;
          in_time = told_in_time _ _ _ _ _ _ _ c.tell_fault.result c.tell_fault.ensures.tells;
          idle = told_moved _ _ _ _ _ _ _ _ c.tell_fault.result c.tell_fault.ensures.tells;
          needs_link = told_needs _ _ _ _ _ _ _ c.tell_fault.result c.tell_fault.ensures.tells;
          answered = told_answered _ _ _ _ _ _ _ (λ _ link. (link.next ≡ None) × HasGivenAll link.inbox) c.args.self.now.link _ c.tell_fault.result c.tell_fault.ensures.tells;
        };
      };
    }
