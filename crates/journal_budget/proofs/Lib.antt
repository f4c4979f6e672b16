pub mod CallerLemmas
mod BudgetLemmas
mod PayloadLemmas
mod FarLemmas
mod ErrorLemmas
mod ReplySizeLemmas
mod ChargeLemmas
