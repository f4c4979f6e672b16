pub mod CallerLemmas
pub mod CallLemmas
pub mod PlaceLemmas
