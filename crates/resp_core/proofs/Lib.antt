pub mod reading
pub mod streams
pub mod TreeLemmas
pub mod RoundTripLemmas
pub mod SendLemmas
pub mod SpellingLemmas
pub mod OneSpellingLemmas
pub mod CommandLemmas
pub mod refusals
pub mod SpellingLengthLemmas
pub mod PayloadLemmas
mod SpelledCommandLemmas
pub mod CallerLemmas
pub mod unfinished
