use denote.Param.Send.{sendable}
use Rattle.std.proofs.Crossing.{crosses}
use Rattle.proxy_admin.proofs.CallerLemmas.{admin_send}
use Rattle.proxy_rounds.proofs.CallerLemmas.{context_send}
use Rattle.proxy_server.proofs.CallerLemmas.{due_send}
use Rattle.proxy_serve.proofs.ServingLemmas.{serving_send}
use Rattle.proxy_serve.proofs.serving.fn.run_generations.scope.Goals as goal

pub spawn-requires-in-loop-index-send-F : goal.spawn-requires-in-loop-index-send-F
spawn-requires-in-loop-index-send-F g c κs within = search (context_send, due_send, crosses, sendable) depth 60 fits 20000

pub spawn-requires-send-F : goal.spawn-requires-send-F
spawn-requires-send-F g c κs within = search (admin_send, serving_send, crosses, sendable) depth 60 fits 20000
