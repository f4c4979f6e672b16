pub mod CallerLemmas
mod ClosingLemmas
mod NameLemmas
pub mod SendLemmas
