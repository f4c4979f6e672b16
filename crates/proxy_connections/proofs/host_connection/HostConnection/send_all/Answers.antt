use Rattle.std.proofs.Common.{refl}
use Rattle.proxy_connections.proofs.SocketLemmas.{KeepsHost-same, KeepsHost-sends, KeepsHost-then}
use Rattle.proxy_connections.proofs.host_connection.HostConnection.send_all.Goals as goal

pub loop-init : goal.loop-init
loop-init g c = (KeepsHost-same _ _, refl)

pub loop-preserved : goal.loop-preserved
loop-preserved g c = (
  KeepsHost-then _ _ _ _ _ _ c.loop.invariant.0
      (KeepsHost-sends _ _ _ (λ none. (c.send.ensures.sends none).works) (λ some. let rests = c.send.ensures.rests some in (rests.0, rests.2))),
  c.loop.invariant.1,
)

pub returns-in_err-send-clause-keeps : goal.returns-in_err-send-clause-keeps
returns-in_err-send-clause-keeps g c =
    KeepsHost-then _ _ _ _ _ _ c.loop.invariant.0
    (KeepsHost-sends _ _ _ (λ none. (c.send.ensures.sends none).works) (λ some. let rests = c.send.ensures.rests some in (rests.0, rests.2)))

pub returns-in_default-clause-keeps : goal.returns-in_default-clause-keeps
returns-in_default-clause-keeps g c =
    KeepsHost-then _ _ _ _ _ _ c.loop.invariant.0
    (KeepsHost-sends _ _ _ (λ none. (c.send.ensures.sends none).works) (λ some. let rests = c.send.ensures.rests some in (rests.0, rests.2)))
