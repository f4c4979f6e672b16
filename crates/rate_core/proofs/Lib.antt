pub mod KnownRateLemmas
pub mod SpreadLemmas
