use Rattle.std.proofs.Common.{Bool, map, take, filter, sym, ◌∙◌}
use Rattle.proxy_server.specs.Living.{is_draining}
use Rattle.proxy_server.specs.declared.living.Living.{Living}
use Rattle.proxy_server.proofs.LivingLemmas.{look_added, look_left}
use Rattle.proxy_server.proofs.living.draining.Goals.{then-is_draining, else-is_draining}
use Rattle.proxy_server.proofs.living.draining.Goals as goal

pub loop-one-preserved : goal.loop-one-preserved
loop-one-preserved c = λ s es st.
    let p : Living → Bool = λ x. is_draining es x.number in
    elim c.if-is_draining.branch [
      | then-is_draining w ↦
          rw w.look-is
          (look_added p c.args.living.now c.loop-one.one-index _ w.both-look.result c.loop-one-test.true
          (sym (c.is_draining.ensures s es st) ∙ w.if-is_draining.true)
          (w.both-look.ensures (map (λ x. x.look) (filter p (take c.loop-one.one-index c.args.living.now))) (c.loop-one.invariant s es st)))
      | else-is_draining w ↦
          rw w.look-is
          (look_left p c.args.living.now c.loop-one.one-index _ c.loop-one.look c.loop-one-test.true
          (sym (c.is_draining.ensures s es st) ∙ w.if-is_draining.false)
          (c.loop-one.invariant s es st))
    ]
