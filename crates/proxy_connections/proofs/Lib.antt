pub mod CallerLemmas
pub mod SocketLemmas
pub mod StageLemmas
pub mod PlaceLemmas
pub mod AssignedLemmas
mod WorkerPlaces
pub mod WorkerConnectionLemmas
pub mod StalledLemmas
mod IdleLemmas
