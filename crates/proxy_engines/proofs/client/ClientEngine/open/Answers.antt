use Rattle.proxy_engines.proofs.OwnHistoryLemmas.{keeps_same}
use Rattle.std.proofs.Common.{None, [], refl, inl, inr, rules}
use Rattle.proxy_engines.proofs.ClientMoves.{opened_carries}
use Rattle.proxy_engines.proofs.InboxLemmas.{behind_none}
use Rattle.proxy_engines.proofs.RefusalLemmas.{is_due}
use Rattle.proxy_engines.proofs.client.ClientEngine.open.Goals as goal

pub returns-in-Ok-open-clause-carries : goal.returns-in-Ok-open-clause-carries
returns-in-Ok-open-clause-carries g c =
    rw c.in-Ok-open.ensures.answered
    (opened_carries c.in-Ok-open.conn (g.T.Turns.facts c.args.turns.now).pass c.args.ends.behind c.in-Ok.inbox _ None _ [] c.in-Ok-open.ensures.new c.new-in-Ok-open.ensures.pending c.in-Ok.ensures.most (behind_none c.in-Ok.inbox [] [] c.in-Ok.ensures.holds))

pub returns-in-Err-open-clause-turns : goal.returns-in-Err-open-clause-turns
returns-in-Err-open-clause-turns g c = c.open.ensures.turns

pub returns-in-Ok-open-clause-turns : goal.returns-in-Ok-open-clause-turns
returns-in-Ok-open-clause-turns g c = c.open.ensures.turns

pub returns-in-Err-clause-turns : goal.returns-in-Err-clause-turns
returns-in-Err-clause-turns g c = keeps_same _

pub returns-in-Err-open-clause-opened : goal.returns-in-Err-open-clause-opened
returns-in-Err-open-clause-opened g c = tt

pub returns-in-Err-open-clause-carries : goal.returns-in-Err-open-clause-carries
returns-in-Err-open-clause-carries g c = tt

pub returns-in-Err-clause-opened : goal.returns-in-Err-clause-opened
returns-in-Err-clause-opened g c = tt

pub returns-in-Err-clause-carries : goal.returns-in-Err-clause-carries
returns-in-Err-clause-carries g c = tt

pub returns-in-Ok-open-clause-err : goal.returns-in-Ok-open-clause-err
returns-in-Ok-open-clause-err g c = tt

pub returns-in-Err-clause-err : goal.returns-in-Err-clause-err
returns-in-Err-clause-err g c = (refl, inl refl)

pub returns-in-Err-open-clause-err : goal.returns-in-Err-open-clause-err
returns-in-Err-open-clause-err g c = (c.in-Err-open.ensures.denied.rests, inr (_, refl))

pub returns-in-Ok-open-clause-due : goal.returns-in-Ok-open-clause-due
returns-in-Ok-open-clause-due g c = tt

pub returns-in-Err-clause-due : goal.returns-in-Err-clause-due
returns-in-Err-clause-due g c = tt

pub returns-in-Err-open-clause-due : goal.returns-in-Err-open-clause-due
returns-in-Err-open-clause-due g c =
    is_due g.T.Turns.cause g.met.T.CoreTurns.laws.refusals_mean (g.T.Turns.facts c.args.turns.now).setting _ (g.T.Turns.facts c.open.new.turns).seen c.in-Err-open.denied c.in-Err-open.ensures.denied.due (λ x none. none)

pub returns-in-Ok-open-clause-opened : goal.returns-in-Ok-open-clause-opened
returns-in-Ok-open-clause-opened g c =
    record {
      opened = c.in-Ok-open.ensures.answered;
      fresh = c.in-Ok-open.ensures.new;
      left_is = search rules;
      told_is = search rules;
      held_is = search rules;
      taken_is = search rules;
      passed_is = search rules;
      counts_are = (search rules, search rules);
      stage = refl;
      reads = refl;
      behind_is = refl;
    }
