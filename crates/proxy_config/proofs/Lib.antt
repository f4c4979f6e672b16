mod ElementLemmas
mod EntryLemmas
mod KeyNameLemmas
mod FirstFaultLemmas
mod HostNameLemmas
mod RingPartLemmas
mod ObjectLemmas
