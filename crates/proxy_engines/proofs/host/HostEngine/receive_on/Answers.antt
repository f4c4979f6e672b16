use Rattle.proxy_engines.proofs.OwnHistoryLemmas.{keeps_same, keeps_then}
use Rattle.std.proofs.Common.{◌≡◌, None, Some, true, false, refl}
use Rattle.std.proofs.lemmas.Result.{err_from_is_err_and, IfOk-from_err}
use Rattle.proxy_history.specs.declared.refusal.Refusal.{Refusal}
use Rattle.proxy_engines.specs.Faults.{told_by_moves}
use Rattle.proxy_engines.specs.Host.{GetsReplies, LinkState}
use Rattle.proxy_engines.specs.LinkSteps.{IsCalmOn}
use Rattle.proxy_engines.proofs.HostMoves.{some_told, stays_on}
use Rattle.proxy_engines.proofs.HostLemmas.{works_on, unasked_here, works_told, told_stays, told_unlinked, told_moved, told_needs_none}
use Rattle.proxy_engines.proofs.FaultLemmas.{cause_due}
use Rattle.proxy_engines.proofs.RefusalLemmas.{due_cut}
use Rattle.proxy_engines.proofs.host.HostEngine.receive_on.Goals as goal

pub returns-in_default : goal.returns-in_default
returns-in_default g c =
    record {
      turns = keeps_same _;
      works = rw (← c.self.view_is, c.in_default.is) (works_on _ _ _ _ _ c.args.moment false _ (stays_on _ _ _ _ c.args.moment refl) refl (rw (← c.self.view_is) at c.requires.no_fault));
      untaken = rw (← c.self.view_is, c.in_default.is) tt;
      unwritten = rw (← c.self.view_is, c.in_default.is) tt;
      calm = rw (← c.self.view_is, c.in_default.is) tt;
      idle = λ _. rw (← c.self.view_is, c.in_default.is) tt;
      needs_none = λ needs. absurd cc;
      due = tt;
    }

pub returns-in_err-receive_in_time : goal.returns-in_err-receive_in_time
returns-in_err-receive_in_time g c =
    let (_, result_is, error_is) = err_from_is_err_and c.from_residual.result c.from_residual.ensures.1 in
    record {
      turns = c.receive_in_time.ensures.moves.turns;
      works =
          let went = c.in_err-receive_in_time.ensures.moves.goes in
          rw (result_is, error_is, ← c.self.view_is, c.in-Some.is)
          (works_on _ _ _ _ _ c.args.moment went.0 _ went.1 c.in_err-receive_in_time.ensures.moves.plain.0 (rw (← c.self.view_is) at c.requires.no_fault));
      untaken = rw (← c.self.view_is) c.receive_in_time.ensures.untaken;
      unwritten = rw (← c.self.view_is, c.in-Some.is) c.receive_in_time.ensures.receives.writes;
      calm = IfOk-from_err c.from_residual.result _ c.from_residual.ensures.0;
      idle = IfOk-from_err c.from_residual.result _ c.from_residual.ensures.0;
      needs_none = IfOk-from_err c.from_residual.result _ c.from_residual.ensures.0;
      due = rw (result_is, error_is) c.in_err-receive_in_time.ensures.moves.plain.1;
    }

pub returns-in-Idle : goal.returns-in-Idle
returns-in-Idle g c =
    record {
      turns = c.receive_in_time.ensures.moves.turns;
      works = let goes = rw c.in-Idle.is at c.in_ok-receive_in_time.ensures.moves.goes in
          rw (← c.self.view_is, c.in-Some.is) (works_on _ _ _ _ _ c.args.moment false _ goes refl (rw (← c.self.view_is) at c.requires.no_fault));
      untaken = rw (← c.self.view_is) c.receive_in_time.ensures.untaken;
      unwritten = rw (← c.self.view_is, c.in-Some.is) c.receive_in_time.ensures.receives.writes;
      calm = rw (← c.self.view_is, c.in-Some.is) (c.in_ok-receive_in_time.ensures.receives.calm (rw c.in-Idle.is refl));
      idle = λ _. rw (← c.self.view_is, c.in-Some.is) (c.in_ok-receive_in_time.ensures.receives.idle c.in-Idle.is);
      needs_none = λ needs. absurd cc;
      due = tt;
    }

pub returns-in-Moved : goal.returns-in-Moved
returns-in-Moved g c =
    record {
      turns = c.receive_in_time.ensures.moves.turns;
      works = let goes = rw c.in-Moved.is at c.in_ok-receive_in_time.ensures.moves.goes in
          rw (← c.self.view_is, c.in-Some.is) (works_on _ _ _ _ _ c.args.moment true _ goes refl (rw (← c.self.view_is) at c.requires.no_fault));
      untaken = rw (← c.self.view_is) c.receive_in_time.ensures.untaken;
      unwritten = rw (← c.self.view_is, c.in-Some.is) c.receive_in_time.ensures.receives.writes;
      calm = rw (← c.self.view_is, c.in-Some.is) (c.in_ok-receive_in_time.ensures.receives.calm (rw c.in-Moved.is refl));
      idle = λ idle. absurd cc;
      needs_none = λ needs. absurd cc;
      due = tt;
    }

pub returns-in-Fault : goal.returns-in-Fault
returns-in-Fault g c =
    let cause = rw c.in-Fault.is at c.in_ok-receive_in_time.ensures.receives.fault in
    record {
      turns = keeps_then _ _ _ c.receive_in_time.ensures.moves.turns c.tell_fault.ensures.turns;
      works = let went = some_told _ (told_by_moves c.receive_in_time.result) c.receive_in_time.ensures.moves.goes in
          let unasked = unasked_here (g.T.Turns.cause (g.T.Turns.facts c.args.turns.now).setting Refusal.Unasked) (g.T.Turns.facts c.args.turns.now).seen (g.T.Turns.facts c.receive_in_time.new.turns).seen (g.T.Turns.facts c.tell_fault.new.turns).seen c.args.moment c.receive_in_time.ensures.moves.turns.begins c.tell_fault.ensures.turns.begins c.in-Fault.kind c.in-Fault.error c.receive_in_time.new.outbox c.in-Some.link c.receive_in_time.new.self cause in
          rw (← c.self.view_is, c.in-Some.is)
          (works_told _ _ (record { outbox = c.receive_in_time.new.outbox; link = Some c.receive_in_time.new.self; fault = Some c.in-Fault.kind; last_fault = Some c.of.result }) c.tell_fault.new.self c.in-Fault.kind c.in-Fault.error _ _ _ c.args.moment went.0 _ went.1
          c.tell_fault.ensures.tells unasked);
      untaken = rw (← c.self.view_is)
          (told_stays (λ l _. GetsReplies c.self.inside.outbox l) _ _ _ _ _ _ _ c.tell_fault.result c.receive_in_time.ensures.untaken c.tell_fault.ensures.tells);
      unwritten = rw (← c.self.view_is, c.in-Some.is)
          (told_stays (λ _ k. k.counts ≡ c.in-Some.link.counts) _ _ _ _ _ _ _ c.tell_fault.result c.receive_in_time.ensures.receives.writes c.tell_fault.ensures.tells);
      calm = told_unlinked _ _ _ _ _ _ (λ (j k : LinkState). IsCalmOn j k c.tell_fault.new.self.outbox c.args.moment) c.args.self.now.link _ c.tell_fault.result c.tell_fault.ensures.tells;
      idle = told_moved _ _ _ _ _ _ _ _ c.tell_fault.result c.tell_fault.ensures.tells;
      needs_none = told_needs_none _ _ _ _ _ _ _ c.tell_fault.result c.tell_fault.ensures.tells;
      due = due_cut _ _ c.tell_fault.result (cause_due (g.T.Turns.cause (g.T.Turns.facts c.args.turns.now).setting) (g.T.Turns.facts c.tell_fault.new.turns).seen c.tell_fault.new.self.outbox c.in-Fault.kind c.in-Fault.error c.in-Some.link c.receive_in_time.new.self _ _ cause) (rw c.receive_in_time.ensures.moves.turns.setting_is at c.tell_fault.ensures.due);
    }
