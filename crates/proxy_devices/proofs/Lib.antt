mod LogLemmas
pub mod CallerLemmas
