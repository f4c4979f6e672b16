pub mod BytesLemmas
mod StubLemmas
pub mod MoveLemmas
pub mod EndLemmas
pub mod RunLemmas
mod HostLemmas
