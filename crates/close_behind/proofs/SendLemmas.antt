-- Names may go to another thread, and threads may share them.
use denote.Param.Send.{IsSend, IsSync, sendable}
use Rattle.std.proofs.Crossing.{crosses}
use Rattle.close_behind.specs.contracts.name_list.Name as Name
use Rattle.close_behind.specs.contracts.name_list.NameList as NameList
use Rattle.close_behind.specs.contracts.close_behind.CloseBehind as CloseBehind

name_send : IsSend Name.the_row
name_send = search (crosses, sendable) depth 20

name_sync : IsSync Name.the_row
name_sync = search (crosses, sendable) depth 20

names_send : IsSend NameList.the_row
names_send = search (name_send, crosses, sendable) depth 20

names_sync : IsSync NameList.the_row
names_sync = search (name_sync, crosses, sendable) depth 20

pub close_behind_send : IsSend CloseBehind.the_row
close_behind_send = search (names_send, names_sync, crosses, sendable) depth 30

pub close_behind_sync : IsSync CloseBehind.the_row
close_behind_sync = search (names_send, names_sync, crosses, sendable) depth 30
