-- By which number a refused byte is told.
pub mod LowestNumberLemmas
pub mod LowestInValueLemmas
pub mod FittingNumberLemmas
pub mod ToldNumberLemmas
pub mod NumberExamples
