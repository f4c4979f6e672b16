pub mod arrivals
pub mod connections
pub mod parts
pub mod pipelines
pub mod turn
pub mod CoreSend
pub mod CallerLemmas
