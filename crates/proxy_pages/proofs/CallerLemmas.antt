-- What a crate above cites: a snapshot may go to another thread.
use denote.Param.Send.{IsSend, sendable}
use Rattle.std.proofs.Crossing.{crosses}
use Rattle.proxy_histogram.specs.contracts.histogram.Histogram as Histogram
use Rattle.proxy_stats.proofs.CallerLemmas.{counts_send, load_send}
use Rattle.proxy_stats.specs.contracts.refused_names.RefusedNames as RefusedNames
use Rattle.proxy_pages.specs.contracts.snapshot.EjectedHosts as EjectedHosts
use Rattle.proxy_pages.specs.contracts.snapshot.Look as Look
use Rattle.proxy_pages.specs.contracts.snapshot.MovedBytes as MovedBytes
use Rattle.proxy_pages.specs.contracts.snapshot.Snapshot as Snapshot

pub histogram_send : IsSend Histogram.the_row
histogram_send = search (crosses, sendable) depth 30 fits 20000

pub look_send : IsSend Look.the_row
look_send = search (load_send, crosses, sendable) depth 30 fits 20000

names_send : IsSend RefusedNames.the_row
names_send = search (crosses, sendable) depth 30 fits 20000

ejected_send : IsSend EjectedHosts.the_row
ejected_send = search (crosses, sendable) depth 30 fits 20000

moved_send : IsSend MovedBytes.the_row
moved_send = search (crosses, sendable) depth 30 fits 20000

pub snapshot_send : IsSend Snapshot.the_row
snapshot_send = search (counts_send, names_send, ejected_send, moved_send, look_send, histogram_send, crosses, sendable) depth 40 fits 20000
