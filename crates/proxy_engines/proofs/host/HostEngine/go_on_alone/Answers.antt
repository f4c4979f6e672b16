use Rattle.proxy_engines.proofs.AnswerLemmas.{any_ok}
use Rattle.proxy_engines.proofs.OwnHistoryLemmas.{keeps_then}
use Rattle.std.proofs.lemmas.Result.{IfOk-from_err, err_from_is_err_and}
use Rattle.proxy_engines.specs.declared.client.Progress.{Progress}
use Rattle.std.proofs.Common.{Ok, Some, rules, ◌≡◌, ◌∙◌, None, [], ap, append-nil, refl, sym, true, false}
use Rattle.proxy_engines.specs.Moves.{told_by_turn}
use Rattle.proxy_engines.specs.Host.{HostOutboxState}
use Rattle.proxy_engines.specs.HostStep.{HostState}
use Rattle.proxy_engines.specs.Faults.{IsLate}
use Rattle.proxy_engines.specs.declared.link_fault.LinkFault.{LinkFault}
use Rattle.proxy_history.specs.declared.event.Kind.{Kind}
use Rattle.proxy_engines.proofs.HostMoves.{some_told}
use Rattle.proxy_engines.proofs.HostLemmas.{empty_is, works_told, works_on, needs_alone, told_needs, told_recorded, told_in_time, told_moved, told_link}
use Rattle.proxy_engines.proofs.RefusalLemmas.{due_cut}
use Rattle.proxy_engines.proofs.FaultLemmas.{not_late}
use Rattle.proxy_engines.proofs.host.HostEngine.go_on_alone.Goals as goal
use Rattle.proxy_engines.proofs.host.HostEngine.go_on_alone.Goals.{then-taken, else-taken}

pub returns-clause-moves : goal.returns-clause-moves
returns-clause-moves g c =
    record {
      turns = c.take_one.ensures.moves.turns;
      works = elim c.if-taken.branch [
        | then-taken w ↦ rw w.result-is (works_on _ _ c.take_one.new.self _ _ c.args.moment true _ (rw w.if-taken.true at c.in_ok-taken.ensures.moves.goes) refl (c.take_one.ensures.takes.fault ∙ c.requires.no_fault))
        | else-taken w ↦ rw w.result-is (works_on _ _ c.take_one.new.self _ _ c.args.moment false _ (rw w.if-taken.false at c.in_ok-taken.ensures.moves.goes) refl (c.take_one.ensures.takes.fault ∙ c.requires.no_fault))
      ];
      due = elim c.if-taken.branch [
        | then-taken w ↦ rw w.result-is tt
        | else-taken w ↦ rw w.result-is tt
      ];
      tells = record {
        recorded = elim c.if-taken.branch [
          | then-taken w ↦ rw w.result-is (c.take_one.ensures.takes.fault ∙ c.requires.no_fault)
          | else-taken w ↦ rw w.result-is (c.take_one.ensures.takes.fault ∙ c.requires.no_fault)
        ];
        unfailed = elim c.if-taken.branch [
          | then-taken w ↦ rw (w.result-is, c.requires.none) tt
          | else-taken w ↦ rw (w.result-is, c.requires.none) tt
        ];
        in_time = let calm : ¬ IsLate c.take_one.new.self.outbox c.args.moment = rw (← c.self.view_is) (not_late c.self.inside.outbox c.args.moment c.is_late.result c.if-is_late.false c.is_late.ensures) in
            elim c.if-taken.branch [
              | then-taken w ↦ rw w.result-is calm
              | else-taken w ↦ rw w.result-is calm
            ];
        idle = elim c.if-taken.branch [
          | then-taken w ↦ rw w.result-is (λ e. absurd cc)
          | else-taken w ↦
              let same = c.in_ok-taken.ensures.takes.same w.if-taken.false in
              let empty : c.args.self.now.outbox.pending ≡ [] =
              ap (λ (l : HostOutboxState). l.pending) (sym same) ∙ ap (λ (h : HostState). h.outbox.pending) (sym c.self.view_is) ∙ empty_is c.self.inside.outbox.pending c.is_empty.result c.is_empty.ensures c.if-not-is_empty.false in
              rw (w.result-is, c.requires.none, c.take_one.ensures.takes.link) (λ e. (empty, ((g.T.Turns.facts c.take_one.new.turns).seen, c.take_one.ensures.moves.turns.begins, ([], sym (append-nil (g.T.Turns.facts c.take_one.new.turns).seen)), c.in_ok-taken.ensures.takes.nothing_waits w.if-taken.false empty)))
        ];
        needs_link = let empty : c.take_one.new.self.outbox.pending ≡ [] = ap (λ (h : HostState). h.outbox.pending) (sym c.self.view_is) ∙ empty_is c.self.inside.outbox.pending c.is_empty.result c.is_empty.ensures c.if-not-is_empty.false in
            elim c.if-taken.branch [
              | then-taken w ↦ rw w.result-is ((λ needs. absurd cc), (λ both. absurd (both.1 empty)))
              | else-taken w ↦ rw w.result-is ((λ needs. absurd cc), (λ both. absurd (both.1 empty)))
            ];
        answered = elim c.if-taken.branch [
          | then-taken w ↦ rw (w.result-is, c.requires.none) (λ _. tt)
          | else-taken w ↦ rw (w.result-is, c.requires.none) (λ _. tt)
        ];
      };
    }

pub returns-in_err-taken-clause-moves : goal.returns-in_err-taken-clause-moves
returns-in_err-taken-clause-moves g c =
    record {
      turns = c.take_one.ensures.moves.turns;
      works = let (_, result_is, error_is) = err_from_is_err_and c.from_residual.result c.from_residual.ensures.1 in
          let went = c.in_err-taken.ensures.moves.goes in
          rw (result_is, error_is)
          (works_on _ _ c.take_one.new.self _ _ c.args.moment went.0 _ went.1 c.in_err-taken.ensures.moves.plain.0 (c.take_one.ensures.takes.fault ∙ c.requires.no_fault));
      due = let (_, result_is, error_is) = err_from_is_err_and c.from_residual.result c.from_residual.ensures.1 in rw (result_is, error_is) c.in_err-taken.ensures.moves.plain.1;
      tells = record {
        recorded = IfOk-from_err c.from_residual.result _ c.from_residual.ensures.0;
        unfailed = IfOk-from_err c.from_residual.result _ c.from_residual.ensures.0;
        in_time = IfOk-from_err c.from_residual.result _ c.from_residual.ensures.0;
        idle = IfOk-from_err c.from_residual.result _ c.from_residual.ensures.0;
        needs_link = IfOk-from_err c.from_residual.result _ c.from_residual.ensures.0;
        answered = IfOk-from_err c.from_residual.result _ c.from_residual.ensures.0;
      };
    }

pub returns-then-not-is_empty-clause-moves : goal.returns-then-not-is_empty-clause-moves
returns-then-not-is_empty-clause-moves g c =
    record {
      turns = c.take_one.ensures.moves.turns;
      works = works_on _ _ c.take_one.new.self _ _ c.args.moment c.in_ok-taken.taken _ c.in_ok-taken.ensures.moves.goes tt (c.take_one.ensures.takes.fault ∙ c.requires.no_fault);
      due = tt;
      tells = record {
        recorded = c.take_one.ensures.takes.fault ∙ c.requires.no_fault;
        unfailed = rw c.requires.none tt;
        in_time = rw (← c.self.view_is) (not_late c.self.inside.outbox c.args.moment c.is_late.result c.if-is_late.false c.is_late.ensures);
        idle = λ idle. absurd cc;
        needs_link = needs_alone (Ok Progress.NeedsLink) c.take_one.new.self.link c.take_one.new.self.outbox.pending c.take_one.ensures.takes.link (search rules);
        answered = λ _. rw c.requires.none tt;
      };
    }

pub returns-then-is_late-clause-moves : goal.returns-then-is_late-clause-moves
returns-then-is_late-clause-moves g c =
    record {
      turns = keeps_then _ _ _ c.take_one.ensures.moves.turns c.tell_fault.ensures.turns;
      works = let last : HostState = record { outbox = c.self.inside.outbox; link = c.self.inside.link; fault = c.self.inside.fault; last_fault = Some LinkFault.Late } in
          let none : c.self.inside.link ≡ None = ap (λ (h : HostState). h.link) c.self.view_is ∙ c.take_one.ensures.takes.link in
          let went = rw (← c.self.view_is) at (some_told _ (told_by_turn c.take_one.result) c.take_one.ensures.moves.goes) in
          let late : IsLate c.self.inside.outbox c.args.moment = c.is_late.ensures.0 c.if-is_late.true in
          works_told _ _ last c.tell_fault.new.self Kind.Late None _ _ _ c.args.moment went.0 c.tell_fault.result went.1
          c.tell_fault.ensures.tells (rw (c.requires.none, none) (refl, refl, late));
      due = due_cut _ _ c.tell_fault.result tt (rw c.take_one.ensures.moves.turns.setting_is at c.tell_fault.ensures.due);
      tells = record {
        recorded = told_recorded _ _ _ _ _ _ None c.tell_fault.result c.tell_fault.ensures.tells;
        unfailed = any_ok _ c.tell_fault.result (rw c.requires.none tt);
        in_time = told_in_time _ _ _ _ _ _ None c.tell_fault.result c.tell_fault.ensures.tells;
        idle = told_moved _ _ _ _ _ _ _ None c.tell_fault.result c.tell_fault.ensures.tells;
        needs_link = told_needs _ _ _ _ _ _ None c.tell_fault.result c.tell_fault.ensures.tells;
        answered = any_ok _ c.tell_fault.result (λ _. rw c.requires.none tt);
      };
    }

pub returns-then-is_late-clause-link : goal.returns-then-is_late-clause-link
returns-then-is_late-clause-link g c =
    let none : c.self.inside.link ≡ None = ap (λ (h : HostState). h.link) c.self.view_is ∙ c.take_one.ensures.takes.link in
    told_link _ _ _ _ _ _ None c.tell_fault.result none c.tell_fault.ensures.tells

pub returns-in_err-taken-clause-link : goal.returns-in_err-taken-clause-link
returns-in_err-taken-clause-link g c = c.take_one.ensures.takes.link
