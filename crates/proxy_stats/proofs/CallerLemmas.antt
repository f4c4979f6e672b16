-- What a crate above cites: a core that counts, and what it tells, may go to another thread; and the numbers of no names.
use denote.Param.Send.{IsSend, sendable}
use Rattle.std.proofs.Crossing.{crosses}
use Rattle.std.proofs.Common.{[], arith}
use Rattle.proxy_core.proofs.CallerLemmas.{core_send, counting_send}
use Rattle.proxy_core.specs.contracts.handover.Handover as Handover
use Rattle.proxy_stats.specs.RefusedNames.{AreCountedIn, no_names}
use Rattle.proxy_stats.proofs.RefusedNamesLemmas.{names_law}
use Rattle.proxy_stats.specs.contracts.tally.Counts as Counts
use Rattle.proxy_stats.specs.contracts.load.Load as Load
use Rattle.proxy_stats.specs.contracts.refused_names.RefusedNames as RefusedNames
use Rattle.proxy_stats.specs.contracts.tallied_core.TalliedCore as TalliedCore
use Rattle.proxy_stats.specs.contracts.tallied_core.Sight as Sight

pub counts_send : IsSend Counts.the_row
counts_send = search (crosses, sendable) depth 30 fits 20000

pub names_send : IsSend RefusedNames.the_row
names_send = search (crosses, sendable) depth 30 fits 20000

pub load_send : IsSend Load.the_row
load_send = search (crosses, sendable) depth 30 fits 20000

handover_send : IsSend Handover.the_row
handover_send = search (crosses, sendable) depth 40 fits 20000

pub sight_send : IsSend Sight.the_row
sight_send = search (handover_send, counts_send, names_send, load_send, crosses, sendable) depth 40 fits 20000

pub tallied_send : IsSend TalliedCore.the_row
tallied_send = search (core_send, counting_send, counts_send, names_send, crosses, sendable) depth 40 fits 20000

pub no_names_law : AreCountedIn [] no_names
no_names_law = (names_law [] (omega arith)).counts
