use Rattle.std.proofs.Common.{refl, ◌∙◌}
use Rattle.proxy_local.proofs.MoveLemmas.{IsBeside-none, IsBeside-then}
use Rattle.proxy_local.proofs.HostLemmas.{all_around}
use Rattle.proxy_engines.proofs.CallerLemmas.{keeps_same, keeps_then}
use Rattle.proxy_local.proofs.local.settle.Goals as goal

pub loop-init : goal.loop-init
loop-init g c = record { turns = keeps_same _; beside = IsBeside-none _ }

pub loop-preserved : goal.loop-preserved
loop-preserved g c = record {
  turns = keeps_then _ _ _ c.loop.invariant.turns c.step_hosts.ensures.turns;
  beside = IsBeside-then _ _ _ c.loop.invariant.beside c.step_hosts.ensures.beside;
}

pub returns-then-branch-clause-beside : goal.returns-then-branch-clause-beside
returns-then-branch-clause-beside g c =
    IsBeside-then _ _ _ c.loop.invariant.beside c.step_hosts.ensures.beside

pub returns-in_err-step_hosts-clause-turns : goal.returns-in_err-step_hosts-clause-turns
returns-in_err-step_hosts-clause-turns g c = keeps_then _ _ _ c.loop.invariant.turns c.step_hosts.ensures.turns

pub returns-in_err-step_hosts-clause-beside : goal.returns-in_err-step_hosts-clause-beside
returns-in_err-step_hosts-clause-beside g c =
    IsBeside-then _ _ _ c.loop.invariant.beside c.step_hosts.ensures.beside

pub returns-then-branch-clause-turns : goal.returns-then-branch-clause-turns
returns-then-branch-clause-turns g c = keeps_then _ _ _ c.loop.invariant.turns c.step_hosts.ensures.turns

pub returns-then-branch-clause-rested : goal.returns-then-branch-clause-rested
returns-then-branch-clause-rested g c =
    (c.loop.hosts, all_around (g.T.Turns.cause (g.T.Turns.facts c.args.turns.now).setting) (g.T.Turns.facts c.args.turns.now).seen (g.T.Turns.facts c.loop.turns).seen (g.T.Turns.facts c.step_hosts.new.turns).seen c.loop.hosts c.step_hosts.new.hosts c.loop.invariant.turns.begins (rw c.loop.invariant.turns.setting_is at (c.in_ok-step_hosts.ensures.idle c.if-branch.true)))
