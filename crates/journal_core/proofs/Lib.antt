mod BlocksLemmas
pub mod CallerLemmas
