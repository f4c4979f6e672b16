pub mod OlderLemmas
pub mod HistoryLemmas
pub mod ConnectionLemmas
pub mod GenerationsStateLemmas
pub mod LawLemmas
