pub mod TellingLemmas
pub mod PointLemmas
pub mod StreamLemmas
