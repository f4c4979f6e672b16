mod SmallStepLemmas
mod ListWriteLemmas
mod SumLemmas
mod CountLemmas
mod LoadLemmas
mod KeyLemmas
mod PlaceListLemmas
mod PlaceLemmas
mod MajorityLemmas
mod RefusedNamesLemmas
mod AddLemmas
mod RefusalLemmas
pub mod CallerLemmas
