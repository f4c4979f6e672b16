pub mod NewestCommand
pub mod PlaceLemmas
pub mod TellsLemmas
