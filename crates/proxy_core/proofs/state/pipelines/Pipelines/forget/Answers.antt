use Rattle.std.proofs.Common.{refl, ap, ◌∙◌, arith}
use Rattle.list_lemmas.specs.Lists.{changed_at}
use Rattle.list_lemmas.proofs.CallerLemmas.{changed_at-mapped_to, mapped_to-all}
use Rattle.proxy_core.specs.Pipelines.{without_connection}
use Rattle.proxy_core.proofs.state.pipelines.Pipelines.forget.Goals as goal

pub loop-host-init : goal.loop-host-init
loop-host-init c = refl

pub loop-host-preserved : goal.loop-host-preserved
loop-host-preserved c =
    let change = without_connection c.args.conn in
    c.forget_at.ensures
    ∙ ap (changed_at change c.loop-host.host) c.loop-host.invariant
    ∙ changed_at-mapped_to change c.loop-host.host c.args.self.now.states

pub returns : goal.returns
returns c =
    c.loop-host.invariant
    ∙ mapped_to-all (without_connection c.args.conn) c.loop-host.host c.args.self.now.states (omega (arith, c.len-host-end.ensures, c.loop-host-test.false))
