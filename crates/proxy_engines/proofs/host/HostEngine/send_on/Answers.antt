use Rattle.proxy_engines.proofs.OwnHistoryLemmas.{keeps_same, keeps_then}
use Rattle.std.proofs.Common.{◌≡◌, Some, true, false, refl}
use Rattle.std.proofs.lemmas.Result.{err_from_is_err_and, IfOk-from_err}
use Rattle.proxy_engines.specs.Faults.{told_by_moves}
use Rattle.proxy_engines.specs.declared.link.Outcome.{Outcome}
use Rattle.proxy_engines.specs.Host.{LinkState}
use Rattle.proxy_engines.proofs.HostMoves.{some_told, stays_on}
use Rattle.proxy_engines.proofs.HostLemmas.{works_on, works_told, told_unlinked, told_moved}
use Rattle.proxy_engines.proofs.FaultLemmas.{cause_due, fault_of_device}
use Rattle.proxy_engines.proofs.RefusalLemmas.{due_cut}
use Rattle.proxy_engines.proofs.host.HostEngine.send_on.Goals as goal

pub returns-in_default : goal.returns-in_default
returns-in_default g c =
    record {
      turns = keeps_same _;
      works = rw (← c.self.view_is, c.in_default.is) (works_on _ _ _ _ _ c.args.moment false _ (stays_on _ _ _ _ c.args.moment refl) refl (rw (← c.self.view_is) at c.requires.no_fault));
      unread = rw (← c.self.view_is, c.in_default.is) tt;
      idle = λ _. rw (← c.self.view_is, c.in_default.is) tt;
      due = tt;
    }

pub returns-in_err-send : goal.returns-in_err-send
returns-in_err-send g c =
    let (_, result_is, error_is) = err_from_is_err_and c.from_residual.result c.from_residual.ensures.1 in
    record {
      turns = c.send.ensures.moves.turns;
      works =
          let went = c.in_err-send.ensures.moves.goes in
          rw (result_is, error_is, ← c.self.view_is, c.in-Some.is)
          (works_on _ _ _ _ _ c.args.moment went.0 _ went.1 c.in_err-send.ensures.moves.plain.0 (rw (← c.self.view_is) at c.requires.no_fault));
      unread = IfOk-from_err c.from_residual.result _ c.from_residual.ensures.0;
      idle = IfOk-from_err c.from_residual.result _ c.from_residual.ensures.0;
      due = rw (result_is, error_is) c.in_err-send.ensures.moves.plain.1;
    }

pub returns-in-Idle : goal.returns-in-Idle
returns-in-Idle g c =
    record {
      turns = c.send.ensures.moves.turns;
      works = let goes = rw c.in-Idle.is at c.in_ok-send.ensures.moves.goes in
          rw (← c.self.view_is, c.in-Some.is) (works_on _ _ _ _ _ c.args.moment false _ goes refl (rw (← c.self.view_is) at c.requires.no_fault));
      unread = rw (← c.self.view_is, c.in-Some.is) c.send.ensures.sends.keeps;
      idle = λ _. rw (← c.self.view_is, c.in-Some.is) (c.in_ok-send.ensures.sends.idle c.in-Idle.is);
      due = tt;
    }

pub returns-in-Moved : goal.returns-in-Moved
returns-in-Moved g c =
    record {
      turns = c.send.ensures.moves.turns;
      works = let goes = rw c.in-Moved.is at c.in_ok-send.ensures.moves.goes in
          rw (← c.self.view_is, c.in-Some.is) (works_on _ _ _ _ _ c.args.moment true _ goes refl (rw (← c.self.view_is) at c.requires.no_fault));
      unread = rw (← c.self.view_is, c.in-Some.is) c.send.ensures.sends.keeps;
      idle = λ idle. absurd cc;
      due = tt;
    }

pub returns-in-Fault : goal.returns-in-Fault
returns-in-Fault g c =
    record {
      turns = keeps_then _ _ _ c.send.ensures.moves.turns c.tell_fault.ensures.turns;
      works = let went = some_told _ (told_by_moves c.send.result) c.send.ensures.moves.goes in
          let device = rw c.in-Fault.is at c.in_ok-send.ensures.sends.fault in
          rw (← c.self.view_is, c.in-Some.is)
          (works_told _ _ (record { outbox = c.send.new.outbox; link = Some c.send.new.self; fault = Some c.in-Fault.kind; last_fault = Some c.of.result }) c.tell_fault.new.self c.in-Fault.kind c.in-Fault.error _ _ _ c.args.moment went.0 _ went.1
          c.tell_fault.ensures.tells
          (fault_of_device c.in-Some.link c.in-Some.link c.send.new.self _ _ refl refl (Outcome.Fault c.in-Fault.kind c.in-Fault.error) device));
      unread = told_unlinked _ _ _ _ _ _ (λ (j k : LinkState). (k.inbox ≡ j.inbox) × (k.next ≡ j.next)) c.args.self.now.link _ c.tell_fault.result c.tell_fault.ensures.tells;
      idle = told_moved _ _ _ _ _ _ _ _ c.tell_fault.result c.tell_fault.ensures.tells;
      due = let device = rw c.in-Fault.is at c.in_ok-send.ensures.sends.fault in
          let cause = fault_of_device c.in-Some.link c.in-Some.link c.send.new.self ⊥ ⊥ refl refl (Outcome.Fault c.in-Fault.kind c.in-Fault.error) device in
          due_cut _ _ c.tell_fault.result (cause_due (g.T.Turns.cause (g.T.Turns.facts c.args.turns.now).setting) (g.T.Turns.facts c.tell_fault.new.turns).seen c.tell_fault.new.self.outbox c.in-Fault.kind c.in-Fault.error c.in-Some.link c.send.new.self _ _ cause) (rw c.send.ensures.moves.turns.setting_is at c.tell_fault.ensures.due);
    }
