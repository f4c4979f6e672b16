pub mod CallerLemmas
mod ThreadSharing
pub mod TaskLemmas
