-- What a crate above cites of the engines.

-- steps of others leave what a client carries, and what a host's engine carries
pub use Rattle.proxy_engines.proofs.ClientLemmas.{others_leave_clients}
pub use Rattle.proxy_engines.proofs.LeaveOthersLemmas.{others_leave_hosts}
-- steps of an engine are no other's
pub use Rattle.proxy_engines.proofs.LeaveOthersLemmas.{clients_leave_others, hosts_leave_others}
-- what is accepted is the first of what the bytes ask
pub use Rattle.proxy_engines.proofs.ClientLemmas.{accepted_are_first, accepted_first_of}
-- a client that ended has accepted all, handed all out and written all
pub use Rattle.proxy_engines.proofs.ClientLemmas.{ended_is_whole, halted_drained}
-- a socket over its connections
pub use Rattle.proxy_engines.proofs.SocketLemmas.{socket_begins, socket_moves, socket_stays, socket_goes_over, socket_asks_in_order, socket_answers_in_order, socket_ends_whole}
-- what engines hold may go to another thread
pub use Rattle.proxy_engines.proofs.SendLemmas.{request_send, rest_send}
-- turns that an engine made or didn't, and others after them
pub use Rattle.proxy_engines.proofs.OwnHistoryLemmas.{keeps_same, keeps_then}
-- what an engine keeps of its socket's logs over any number of calls
pub use Rattle.proxy_engines.proofs.KeepsLemmas.{KeepsSocket-same, KeepsSocket-then, KeepsSocket-told, KeepsSocket-drained, KeepsSocket-passes, clients_keep_sockets}
pub use Rattle.proxy_engines.proofs.KeepsLemmas.{KeepsLink-same, KeepsLink-then, KeepsLink-sends, KeepsLink-steps, KeepsLink-records, hosts_keep_links}
-- and what a socket's and a link's logs say of it
pub use Rattle.proxy_engines.proofs.LogsLemmas.{hosts_carry_logs, sockets_carry_logs}
