-- A stream of values, and a reader that is fed it.
pub mod SplitsLemmas
pub mod FirstValueLemmas
pub mod StreamLawLemmas
pub mod ReadableLemmas
pub mod ReaderStateLemmas
