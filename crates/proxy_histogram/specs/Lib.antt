pub mod Values
pub mod Unanswered
pub mod HostDurations
