-- The values of parts, and the outcomes of commands.
pub mod ValueLemmas
pub mod OutcomesStayLemmas
pub mod OwnValueLemmas
pub mod PlainOutcomeLemmas
pub mod OutcomeLemmas
