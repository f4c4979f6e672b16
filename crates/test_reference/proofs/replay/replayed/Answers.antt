use Rattle.std.proofs.Common.{◌≡◌, ◌+◌, ◌<◌, [], ◌∷◌, length, take, refl, sym, ap, ◌∙◌, subst}
use Rattle.ejector.specs.State.{State, fresh_state}
use Rattle.ejector.specs.Ejection.{state}
use Rattle.ejector.proofs.CallerLemmas.{opening_first, fresh_opening}
use Rattle.proxy_history.specs.Setting.{Setting}
use Rattle.proxy_history.specs.History.{History, Step}
use Rattle.test_reference.specs.Scan.{Shows, history_of}
use Rattle.test_reference.proofs.HistoryOfLemmas.{history_of-more}
use Rattle.test_reference.specs.declared.replay.Replay.{Replay}
use Rattle.test_reference.proofs.replay.replayed.Goals as goal

-- with no steps nothing was told
shows_none : (S : Setting) (r : Replay) → r.parts.items ≡ [] → r.sent.items ≡ [] → r.ejector.rules ≡ S.rules
    → r.ejector.state ≡ fresh_state r.ejector.rules → S.opening ≡ fresh_state S.rules → Shows S [] r
shows_none S r parts sent rules now opening = record {
  parts = rw parts refl;
  sent = rw sent refl;
  rules = rules;
  state = now ∙ ap fresh_state rules ∙ sym (opening_first S.rules (fresh_state S.rules) (fresh_opening S.rules))
      ∙ ap (λ (O : State). state S.rules O []) (sym opening);
}

pub loop-at-init : goal.loop-at-init
loop-at-init c = record {
  shows = λ S ring rules opening hosts.
      shows_none S _ c.new.ensures.items c.new-2.ensures.items (c.in_ok-ejector.ensures.0 ∙ sym rules) c.in_ok-ejector.ensures.1 opening;
  rules = c.in_ok-ejector.ensures.0;
}

pub loop-at-preserved : goal.loop-at-preserved
loop-at-preserved c =
    let steps = c.args.steps.now in
    let i = c.loop-at.at in
    let s = c.index-steps-at.result in
    let within : i < length steps = c.loop-at-test.true in
    let grown : history_of (take (i + 1) steps) ≡ s ∷ history_of (take i steps) =
    history_of-more steps i s within ∙ ap (λ (z : Step). z ∷ history_of (take i steps)) (sym c.index-steps-at.is) in
    record {
      shows = λ S ring rules opening hosts.
          let before = c.loop-at.invariant.shows S ring rules opening hosts in
          subst (λ (H : History). Shows S H c.grow.new.replay) (sym grown) (c.in_ok-grow.ensures.shows S s ring (ap (λ (z : Step). z.event) c.index-steps-at.is) (hosts i s within) before);
      rules = c.grow.ensures.rules ∙ c.loop-at.invariant.rules;
    }
