use Rattle.proxy_engines.proofs.ClientMoves.{opened_carries}
use Rattle.std.proofs.Common.{◌∙◌, ap, rules, refl}
use Rattle.resp_core.specs.ReaderState.{ReaderState}
use Rattle.proxy_engines.specs.Client.{waiting_requests}
use Rattle.proxy_engines.proofs.InboxLemmas.{with-behind}
use Rattle.proxy_engines.proofs.RefusalLemmas.{is_due}
use Rattle.proxy_engines.proofs.client.ClientEngine.open_with.Goals as goal

pub returns-in-Ok-clause-carries : goal.returns-in-Ok-clause-carries
returns-in-Ok-clause-carries g c =
    λ b rest. rw (c.in-Ok.ensures.answered, c.with-inbox.ensures.next, c.with-inbox.ensures.behind)
    (opened_carries c.in-Ok.conn (g.T.Turns.facts c.args.turns.now).pass c.args.rest.behind c.with-inbox.result.0 _ c.args.rest.next _ b c.in-Ok.ensures.new c.new.ensures.pending
    (ap (λ (z : ReaderState). z.most) c.with-inbox.ensures.values ∙ rest.most_is)
    (with-behind c.with-inbox.result.0 c.args.rest b (waiting_requests c.args.rest.next) c.with-inbox.ensures.fresh c.with-inbox.ensures.values rest.holds))

pub returns-in-Ok-clause-due : goal.returns-in-Ok-clause-due
returns-in-Ok-clause-due g c = tt

pub returns-in-Err-clause-due : goal.returns-in-Err-clause-due
returns-in-Err-clause-due g c =
    is_due g.T.Turns.cause g.met.T.CoreTurns.laws.refusals_mean (g.T.Turns.facts c.args.turns.now).setting _ (g.T.Turns.facts c.open.new.turns).seen c.in-Err.denied c.in-Err.ensures.denied.due (λ x none. none)

pub returns-in-Ok-clause-opened : goal.returns-in-Ok-clause-opened
returns-in-Ok-clause-opened g c =
    record {
      opened = c.in-Ok.ensures.answered;
      fresh = c.in-Ok.ensures.new;
      left_is = search rules;
      told_is = search rules;
      held_is = search rules;
      taken_is = search rules;
      passed_is = search rules;
      counts_are = (search rules, search rules);
      stage = refl;
      reads = refl;
      behind_is = c.with-inbox.ensures.behind;
    }
