-- That the functions of specs/Reading read just the texts of specs/Grammar.
pub mod GrammarReaderLemmas
pub mod RefusedPlaces
pub mod PartLemmas
pub mod WholeValueLemmas
pub mod HaltLemmas
