-- What each atomic step does to the rule of the gate.
pub mod FrameLemmas
pub mod ReadLemmas
pub mod NumberLemmas
pub mod DrawLemmas
pub mod EnterLemmas
pub mod LeaveLemmas
pub mod CompareLemmas
