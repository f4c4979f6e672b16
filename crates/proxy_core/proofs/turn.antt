pub mod IsMadeLemmas
pub mod IsDoneLemmas
pub mod EventResults
pub mod Requirements
pub mod RefusalForLemmas
pub mod FreshMachine
pub mod IsRunLemmas
pub mod RecordedLemmas
