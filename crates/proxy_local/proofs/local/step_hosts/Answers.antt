use Rattle.std.proofs.Common.{get_or, refl, ◌∙◌}
use Rattle.proxy_local.proofs.MoveLemmas.{IsBeside-none, IsBeside-then}
use Rattle.proxy_local.proofs.HostLemmas.{first_all, first_around, first_more, rests_around, starts_same}
use Rattle.proxy_local.specs.Moves.{RestsIdle}
use Rattle.proxy_engines.proofs.CallerLemmas.{keeps_same, keeps_then}
use Rattle.proxy_local.proofs.local.step_hosts.Goals as goal
use Rattle.proxy_local.proofs.local.step_hosts.Goals.{then-not-branch, else-not-branch}

pub loop-host-init : goal.loop-host-init
loop-host-init g c = record { turns = keeps_same _; beside = IsBeside-none _; idle = λ _. refl }

pub loop-host-preserved : goal.loop-host-preserved
loop-host-preserved g c =
    let inv = c.loop-host.invariant in
    let cause = g.T.Turns.cause (g.T.Turns.facts c.args.turns.now).setting in
    let first = (g.T.Turns.facts c.args.turns.now).seen in
    let before = (g.T.Turns.facts c.loop-host.turns).seen in
    let after = (g.T.Turns.facts c.step_host.new.turns).seen in
    record {
      turns = keeps_then _ _ _ inv.turns c.step_host.ensures.turns;
      beside = IsBeside-then _ _ _ inv.beside c.step_host.ensures.beside;
      idle = elim c.if-not-branch.branch [
        | then-not-branch w ↦ rw w.are_idle-is (λ e. absurd cc)
        | else-not-branch w ↦ rw w.are_idle-is (λ e.
            let rests = rests_around cause first before after after (get_or c.loop-host.hosts c.loop-host.host-index c.host-item.result) c.step_host.new.host inv.turns.begins (starts_same after) (rw inv.turns.setting_is at (c.in_ok-step_host.ensures.idle w.if-not-branch.false)) in
            first_more (RestsIdle cause first after) c.loop-host.host-index c.args.hosts.now c.loop-host.hosts c.host-item.result c.step_host.new.host
            (first_around cause first before after c.loop-host.host-index c.args.hosts.now c.loop-host.hosts c.step_host.ensures.turns.begins (inv.idle e)) c.loop-host-test.true rests)
      ];
    }

pub returns-in_err-step_host-clause-turns : goal.returns-in_err-step_host-clause-turns
returns-in_err-step_host-clause-turns g c = keeps_then _ _ _ c.loop-host.invariant.turns c.step_host.ensures.turns

pub returns-in_err-step_host-clause-beside : goal.returns-in_err-step_host-clause-beside
returns-in_err-step_host-clause-beside g c =
    IsBeside-then _ _ _ c.loop-host.invariant.beside c.step_host.ensures.beside

pub returns-clause-idle : goal.returns-clause-idle
returns-clause-idle g c = λ e.
    first_all (RestsIdle (g.T.Turns.cause (g.T.Turns.facts c.args.turns.now).setting) (g.T.Turns.facts c.args.turns.now).seen (g.T.Turns.facts c.loop-host.turns).seen) c.loop-host.host-index c.args.hosts.now c.loop-host.hosts (c.loop-host.invariant.idle e) c.loop-host-test.false
