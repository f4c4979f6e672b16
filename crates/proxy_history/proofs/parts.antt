-- The parts of commands: how they are placed, and which there are.
pub mod FilterLemmas
pub mod PlacingLemmas
pub mod AreApartLemmas
pub mod EpochLemmas
pub mod ArrivalLemmas
pub mod CommandPartLemmas
