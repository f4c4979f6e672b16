use Rattle.proxy_engines.proofs.OwnHistoryLemmas.{keeps_then}
use Rattle.engine_work.specs.declared.error.EngineError.{EngineError}
use Rattle.proxy_engines.specs.declared.client.Progress.{Progress}
use Rattle.std.specs.Prelude.{Result, Err, IfOk, IfErr}
use Rattle.std.proofs.Common.{◌∙◌, Ok, sym, ap, inl, refl, rules, ◌≡◌, ◌↔◌}
use Rattle.std.proofs.lemmas.Result.{IfOk-from_err, err_from_is_err_and}
use Rattle.proxy_history.specs.declared.refusal.Refusal.{Refusal}
use Rattle.proxy_engines.specs.HostStep.{HostState, after_fault}
use Rattle.proxy_engines.specs.Faults.{HasNoFaultOn}
use Rattle.proxy_engines.proofs.AnswerLemmas.{any_ok}
use Rattle.proxy_engines.proofs.HostLemmas.{no_link, steps_after}
use Rattle.proxy_engines.proofs.host.HostEngine.step.Goals as goal

-- an error stays behind an earlier fault
after_err : (P : EngineError → Type 0) (r : Result Progress EngineError) → IfErr r P → IfErr (after_fault r) P
after_err P (Ok Progress.NeedsLink) h = tt
after_err P (Ok Progress.Moved) h = tt
after_err P (Ok Progress.Idle) h = tt
after_err P (Ok Progress.Cut) h = tt
after_err P (Ok Progress.Ended) h = tt
after_err P (Err e) h = h

-- what the answer comes to behind an earlier fault
module _ (A : Type 0) where
  after_needs : (r : Result Progress EngineError) → IfOk r (λ p. (p ≡ Progress.NeedsLink) ↔ A) → IfOk (after_fault r) (λ p. (p ≡ Progress.NeedsLink) ↔ A)
  after_needs (Ok Progress.NeedsLink) h = h
  after_needs (Ok Progress.Moved) h = ((λ needs. absurd cc), (λ a. let e = h.1 a in absurd cc))
  after_needs (Ok Progress.Idle) h = ((λ needs. absurd cc), (λ a. let e = h.1 a in absurd cc))
  after_needs (Ok Progress.Cut) h = ((λ needs. absurd cc), (λ a. let e = h.1 a in absurd cc))
  after_needs (Ok Progress.Ended) h = ((λ needs. absurd cc), (λ a. let e = h.1 a in absurd cc))
  after_needs (Err e) h = tt

  after_idle : (r : Result Progress EngineError) → IfOk (after_fault r) (λ p. p ≡ Progress.Idle → A)
  after_idle (Ok Progress.NeedsLink) = λ idle. absurd cc
  after_idle (Ok Progress.Moved) = λ idle. absurd cc
  after_idle (Ok Progress.Idle) = λ idle. absurd cc
  after_idle (Ok Progress.Cut) = λ idle. absurd cc
  after_idle (Ok Progress.Ended) = λ idle. absurd cc
  after_idle (Err e) = tt

  after_any : (r : Result Progress EngineError) → IfOk r (λ _. A) → IfOk (after_fault r) (λ _. A)
  after_any (Ok Progress.NeedsLink) a = a
  after_any (Ok Progress.Moved) a = a
  after_any (Ok Progress.Idle) a = a
  after_any (Ok Progress.Cut) a = a
  after_any (Ok Progress.Ended) a = a
  after_any (Err e) a = tt

pub returns-clause-makes : goal.returns-clause-makes
returns-clause-makes g c =
    record {
      turns = keeps_then _ _ _ c.record_fault.ensures.records.turns c.go_on-2.ensures.moves.turns;
      steps = let was = ap (λ (h : HostState). h.fault) (sym c.self.view_is) ∙ c.in-Some.is in
          inl (steps_after (g.T.Turns.cause (g.T.Turns.facts c.args.turns.now).setting Refusal.Unasked) (g.T.Turns.facts c.args.turns.now).seen (g.T.Turns.facts c.record_fault.new.turns).seen (g.T.Turns.facts c.go_on-2.new.turns).seen c.args.moment c.record_fault.ensures.records.turns.begins
          c.args.self.now c.record_fault.new.self c.go_on-2.new.self c.in-Some.kind _ _ _ c.go_on-2.result _ was c.in_ok-record_fault.ensures.records.records (rw c.record_fault.ensures.records.turns.setting_is at c.go_on-2.ensures.moves.works) c.after_fault.ensures);
      due = rw c.after_fault.ensures (after_err _ c.go_on-2.result (rw c.record_fault.ensures.records.turns.setting_is at c.go_on-2.ensures.moves.due));
    }

pub returns-in_default-clause-makes : goal.returns-in_default-clause-makes
returns-in_default-clause-makes g c =
    record {
      turns = c.go_on.ensures.moves.turns;
      steps = inl (record { first = c.args.self.now; between = _; answer = c.go_on.result; begins = inl (refl, refl, refl); whole = search rules; works = c.go_on.ensures.moves.works });
      due = c.go_on.ensures.moves.due;
    }

pub returns-in_err-record_fault-clause-makes : goal.returns-in_err-record_fault-clause-makes
returns-in_err-record_fault-clause-makes g c =
    record {
      turns = c.record_fault.ensures.records.turns;
      steps = search rules;
      due = let (_, result_is, error_is) = err_from_is_err_and c.from_residual.result c.from_residual.ensures.1 in rw (result_is, error_is) c.in_err-record_fault.ensures.records.due;
    }

pub returns-in_default-clause-tells : goal.returns-in_default-clause-tells
returns-in_default-clause-tells g c = c.go_on.ensures.moves.tells

pub returns-in_err-record_fault-clause-tells : goal.returns-in_err-record_fault-clause-tells
returns-in_err-record_fault-clause-tells g c =
    record {
      recorded = IfOk-from_err c.from_residual.result _ c.from_residual.ensures.0;
      unfailed = IfOk-from_err c.from_residual.result _ c.from_residual.ensures.0;
      in_time = IfOk-from_err c.from_residual.result _ c.from_residual.ensures.0;
      idle = IfOk-from_err c.from_residual.result _ c.from_residual.ensures.0;
      needs_link = IfOk-from_err c.from_residual.result _ c.from_residual.ensures.0;
      answered = IfOk-from_err c.from_residual.result _ c.from_residual.ensures.0;
    }

pub returns-clause-tells : goal.returns-clause-tells
returns-clause-tells g c =
    record {
      recorded = rw c.after_fault.ensures (after_any _ c.go_on-2.result c.go_on-2.ensures.moves.tells.recorded);
      unfailed = let none = c.in_ok-record_fault.ensures.records.records.fails.link in
          rw c.after_fault.ensures (after_any _ c.go_on-2.result (any_ok _ c.go_on-2.result (no_link HasNoFaultOn c.args.self.now.link c.go_on-2.new.self.link (c.go_on-2.ensures.alone none))));
      in_time = rw c.after_fault.ensures (after_any _ c.go_on-2.result c.go_on-2.ensures.moves.tells.in_time);
      idle = rw c.after_fault.ensures (after_idle _ c.go_on-2.result);
      needs_link = rw c.after_fault.ensures (after_needs _ c.go_on-2.result c.go_on-2.ensures.moves.tells.needs_link);
      answered = let was = ap (λ (h : HostState). h.fault) (sym c.self.view_is) ∙ c.in-Some.is in
          any_ok _ c.after_fault.result (λ none. let clash = sym was ∙ none in absurd cc);
    }
