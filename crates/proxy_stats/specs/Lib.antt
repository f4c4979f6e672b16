pub mod Amounts
pub mod Counts
pub mod Load
pub mod RefusedNames
pub mod RefusedNamesLaws
pub mod Refusals
pub mod Sight
pub mod Sums
