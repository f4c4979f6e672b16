pub mod NewParts
pub mod AreApartLemmas
pub mod PartNumbers
pub mod PartValues
pub mod PartsWithValue
pub mod UnansweredParts
pub mod OpenParts
pub mod FewParts
