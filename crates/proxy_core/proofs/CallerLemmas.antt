-- What a crate above cites of the core.

-- a core of either kind may go to another thread, and threads may share a gate round it
pub use Rattle.proxy_core.proofs.CoreSend.{core_send, counting_send, recording_send, gate_sync}
-- a command has no more parts than its request has bytes
pub use Rattle.proxy_core.proofs.parts.FewParts.{few_parts}
-- no more parts are sent than there are steps
pub use Rattle.proxy_core.proofs.pipelines.PipelinesOfLemmas.{sent_to-at_most}
