use Rattle.std.proofs.Common.{◌++◌, [], ◌∷◌, List, Result, ℕ, length, refl, sym, ap, ◌∙◌, subst, arith}
use Rattle.proxy_history.specs.Setting.{Setting}
use Rattle.proxy_history.specs.Legal.{IsLegal}
use Rattle.proxy_history.specs.Proxy.{Proxy, history_in}
use Rattle.proxy_history.specs.declared.answer.Answer.{Answer}
use Rattle.proxy_history.specs.declared.event.Event.{Event}
use Rattle.proxy_history.specs.declared.refusal.Refusal.{Refusal}
use Rattle.proxy_core.specs.Core.{IsTurn, IsRun}
use Rattle.proxy_core.proofs.turn.IsRunLemmas.{run_more, IsLegal-run, append-item, all-yielded}
use Rattle.proxy_core.proofs.machine.CoreOf.run.Goals as goal

pub loop-pass-init : goal.loop-pass-init
loop-pass-init g c = record {
  run = subst (λ (z : List (Result Answer Refusal)). IsRun c.args.self.now.setting (history_in c.args.self.now) [] z (history_in c.args.self.now)) (sym c.in_ok-answers.ensures.items) refl;
  setting = refl;
  pairs = c.into_iter-pass-iterator.ensures.into_iter_gives.0;
  room = omega (arith, ap length c.into_iter-pass-iterator.ensures.into_iter_gives.0, c.args.pairs.ok.0, c.len.ensures, c.in_ok-answers.ensures.len, c.in_ok-answers.ensures.capacity);
}

pub push_reserved-requires : goal.push_reserved-requires
push_reserved-requires g c = omega (arith, ap length c.in-Some.ensures.steps.0, c.loop-pass.invariant.room)

pub loop-pass-preserved : goal.loop-pass-preserved
loop-pass-preserved g c =
    let S = c.args.self.now.setting in
    let H = history_in c.args.self.now in
    let i = c.loop-pass.invariant in
    record {
      run =
          subst (λ (z : List (Result Answer Refusal)). IsRun S H (c.loop-pass.yielded ++ (c.in-Some.pass, c.in-Some.event) ∷ []) z (history_in c.answer.new.self)) (sym c.push_reserved.ensures.items)
          (run_more S H c.loop-pass.yielded c.loop-pass.answers.items (history_in c.loop-pass.self) c.in-Some.pass c.in-Some.event c.answer.result (history_in c.answer.new.self) i.run
          (subst (λ (T : Setting). IsTurn T (history_in c.loop-pass.self) c.in-Some.pass c.in-Some.event c.answer.result (history_in c.answer.new.self)) i.setting c.answer.ensures.turn));
      setting = c.answer.ensures.setting ∙ i.setting;
      pairs = append-item c.loop-pass.yielded c.loop-pass.pass-iterator.rest.items c.next.new.self.rest.items c.args.pairs.items (c.in-Some.pass, c.in-Some.event) c.in-Some.ensures.steps.0 i.pairs;
      room = omega (arith, ap length c.in-Some.ensures.steps.0, i.room, c.push_reserved.ensures.len, c.push_reserved.ensures.capacity);
    }

pub returns-clause-run : goal.returns-clause-run
returns-clause-run g c =
    let i = c.loop-pass.invariant in
    subst (λ (z : List (ℕ × Event)). IsRun c.args.self.now.setting (history_in c.args.self.now) z c.loop-pass.answers.items (history_in c.loop-pass.self))
    (all-yielded c.loop-pass.yielded c.loop-pass.pass-iterator.rest.items c.args.pairs.items (sym c.loop-pass.pass-iterator.rest.ok.0 ∙ c.in-None.ensures.steps.0) i.pairs) i.run

pub returns-clause-legal : goal.returns-clause-legal
returns-clause-legal g c =
    let i = c.loop-pass.invariant in
    let before = subst (λ (k : Proxy). IsLegal k.setting (history_in k)) c.self.view_is c.self.invariant.0.legal in
    subst (λ (T : Setting). IsLegal T (history_in c.loop-pass.self)) (sym i.setting)
    (IsLegal-run c.args.self.now.setting (history_in c.args.self.now) c.loop-pass.yielded c.loop-pass.answers.items (history_in c.loop-pass.self) before i.run)

pub returns-clause-refused : goal.returns-clause-refused
returns-clause-refused g c = tt

pub returns-clause-err : goal.returns-clause-err
returns-clause-err g c = tt
