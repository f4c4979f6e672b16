-- Why events are refused, and what holds of those that aren't.
pub mod NoCauseLemmas
pub mod HostLemmas
pub mod CauseLemmas
pub mod RefusalLemmas
