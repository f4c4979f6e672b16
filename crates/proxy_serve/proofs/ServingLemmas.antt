-- What is served may go to the operator's thread.
use denote.Ref.{NamedLft}
use denote.Param.Send.{IsSend, sendable}
use Rattle.std.proofs.Crossing.{crosses}
use Rattle.proxy_rounds.proofs.CallerLemmas.{behind_sync, config_sync, server_sync}
use Rattle.proxy_serve.specs.contracts.serving.Serving as Serving

pub serving_send : (κ : NamedLft) → IsSend (Serving.the_row κ)
serving_send κ = search (server_sync, config_sync, behind_sync, crosses, sendable) depth 40 fits 20000
