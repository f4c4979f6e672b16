-- What is handed out to a connection.
pub mod OrderLemmas
pub mod AfterCloseLemmas
pub mod HandingLemmas
