use Rattle.std.proofs.Common.{rules, ◌∙◌, ap, refl, sym, inl, inr}
use Rattle.proxy_engines.specs.Host.{HostOutboxState}
use Rattle.proxy_engines.proofs.RefusalLemmas.{is_due}
use Rattle.proxy_engines.proofs.HostMoves.{fault_records}
use Rattle.proxy_engines.proofs.host_outbox.HostOutbox.fail.Goals as goal

pub returns-in-Ok : goal.returns-in-Ok
returns-in-Ok g c =
    record {
      records = record {
        turns = c.make_turn.ensures.turns;
        fails = rw (c.saturating_add-self-inside.ensures, c.new.ensures, c.clear.ensures.items, c.in-Ok.ensures.answered.steps, ← c.self.view_is)
            (λ k. fault_records _ k (g.T.Turns.facts c.args.turns.now).pass _ c.args.kind c.args.moment c.in-Ok.answer c.if-self.false (rw c.in-Ok.ensures.answered.steps at c.in-Ok.ensures.answered.few));
        same = tt;
        err = tt;
        due = tt;
      };
    }

pub returns-in-Err : goal.returns-in-Err
returns-in-Err g c =
    record {
      records = record {
        turns = c.make_turn.ensures.turns;
        fails = tt;
        same = (refl, c.in-Err.ensures.denied.rests);
        err = (_, refl);
        due = inl (is_due g.T.Turns.cause g.met.T.CoreTurns.laws.refusals_mean (g.T.Turns.facts c.args.turns.now).setting _ (g.T.Turns.facts c.make_turn.new.turns).seen c.in-Err.denied c.in-Err.ensures.denied.due (λ x none. none));
      };
    }

pub returns-then-self : goal.returns-then-self
returns-then-self g c =
    record {
      records = record {
        turns = search rules;
        fails = search rules;
        same = search rules;
        err = search rules;
        due = inr (ap (λ (l : HostOutboxState). l.is_astray) (sym c.self.view_is) ∙ c.if-self.true, refl);
      };
    }
