-- Which parts wait for a host, which are sent, and how many replies come.
pub mod SentOnceLemmas
pub mod WaitingStepLemmas
pub mod ReplyCountLemmas
pub mod SendingLemmas
pub mod UnsentLemmas
pub mod WaitingOrderLemmas
