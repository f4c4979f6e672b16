use Rattle.std.proofs.Common.{inl, inr, refl}
use Rattle.proxy_engines.proofs.ClientMoves.{cut_goes, failed_goes}
use Rattle.proxy_engines.proofs.RefusalLemmas.{is_due}
use Rattle.proxy_engines.proofs.client.ClientEngine.cut.Goals as goal

pub returns-in-Ok-clause-turns : goal.returns-in-Ok-clause-turns
returns-in-Ok-clause-turns g c = c.make_turn.ensures.turns

pub returns-in-Err-clause-turns : goal.returns-in-Err-clause-turns
returns-in-Err-clause-turns g c = c.make_turn.ensures.turns

pub returns-in-Ok-clause-cuts : goal.returns-in-Ok-clause-cuts
returns-in-Ok-clause-cuts g c = rw (c.in-Ok.ensures.answered.steps, ← c.self.view_is) (inl (cut_goes _ (g.T.Turns.facts c.args.turns.now).pass c.in-Ok.told _, refl, refl))

pub returns-in-Err-clause-cuts : goal.returns-in-Err-clause-cuts
returns-in-Err-clause-cuts g c = rw (← c.self.view_is) (inr (failed_goes _ _ _ c.in-Err.ensures.denied.rests, refl, (_, refl)))

pub returns-in-Ok-clause-due : goal.returns-in-Ok-clause-due
returns-in-Ok-clause-due g c = inl refl

pub returns-in-Err-clause-due : goal.returns-in-Err-clause-due
returns-in-Err-clause-due g c =
    inr (is_due g.T.Turns.cause g.met.T.CoreTurns.laws.refusals_mean (g.T.Turns.facts c.args.turns.now).setting _ (g.T.Turns.facts c.make_turn.new.turns).seen c.in-Err.denied c.in-Err.ensures.denied.due (λ x none. none))
