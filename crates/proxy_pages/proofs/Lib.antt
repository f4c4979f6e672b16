mod TextLemmas
mod AnswerLemmas
pub mod CallerLemmas
mod DelayLemmas
