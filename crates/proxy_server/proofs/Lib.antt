pub mod CallerLemmas
pub mod CountSumLemmas
pub mod LookSumLemmas
pub mod NameSumLemmas
pub mod LivingLemmas
pub mod WordLemmas
