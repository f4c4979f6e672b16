pub mod PlaceLemmas
pub mod QueueLemmas
