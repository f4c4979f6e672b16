use denote.Param.Send.{sendable}
use Rattle.std.proofs.Crossing.{crosses}
use Rattle.close_behind.proofs.SendLemmas.{close_behind_send}
use Rattle.proxy_core.proofs.CallerLemmas.{core_send, recording_send}
use Rattle.proxy_devices.proofs.CallerLemmas.{log_send}
use Rattle.proxy_engines.proofs.CallerLemmas.{request_send}
use Rattle.resp_core.proofs.SendLemmas.{bytes_send, reader_send}
use Rattle.test_components.proofs.works.two_workers_meet.Goals as goal

pub run_all-requires-send-K : goal.run_all-requires-send-K
run_all-requires-send-K g c κs within = search (log_send, core_send, recording_send, request_send, reader_send, bytes_send, close_behind_send, crosses, sendable) depth 40 fits 20000
