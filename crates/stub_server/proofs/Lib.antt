pub mod WordLemmas
pub mod CommandSearchLemmas
pub mod MapLemmas
pub mod NumberLemmas
pub mod LookupLemmas
