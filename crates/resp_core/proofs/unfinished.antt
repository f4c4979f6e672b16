-- How reading goes on in an unfinished value.
pub mod OpenListLemmas
pub mod HeadLemmas
pub mod ResumedReadingLemmas
pub mod PartialValueLemmas
pub mod LineLemmas
pub mod SeenBytesLemmas
pub mod WordLemmas
