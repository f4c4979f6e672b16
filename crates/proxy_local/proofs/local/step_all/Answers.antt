use Rattle.std.proofs.Common.{inr}
use Rattle.proxy_core.specs.Recorded.{IsCauseIn, journal_of, made_with}
use Rattle.proxy_local.proofs.MoveLemmas.{GoesBeside-beside, GoesBeside-then}
use Rattle.proxy_local.proofs.HostLemmas.{all_around}
use Rattle.proxy_local.proofs.local.step_all.Goals as goal

pub returns-in_err-settle-in_default-clause-goes :
    goal.returns-in_err-settle-in_default-clause-goes
returns-in_err-settle-in_default-clause-goes g c =
    GoesBeside-then _ _ _ _ _ _ c.step_client.ensures.goes (GoesBeside-beside _ _ _ c.settle.ensures.beside)

pub returns-in_ok-settle-in_default-clause-goes : goal.returns-in_ok-settle-in_default-clause-goes
returns-in_ok-settle-in_default-clause-goes g c =
    GoesBeside-then _ _ _ _ _ _ c.step_client.ensures.goes (GoesBeside-beside _ _ _ c.settle.ensures.beside)

pub returns-in_ok-settle-in_default-clause-rested :
    goal.returns-in_ok-settle-in_default-clause-rested
returns-in_ok-settle-in_default-clause-rested g c =
    let (before, rested) = c.in_ok-settle-in_default.ensures.rested in
    inr (inr (before, all_around (IsCauseIn (made_with c.args.turns.now.state)) (journal_of c.args.turns.now.state) (journal_of c.step_client.new.turns.state) (journal_of c.settle.new.turns.state) before c.settle.new.hosts c.step_client.ensures.turns.begins (rw c.step_client.ensures.turns.setting_is at rested)))
