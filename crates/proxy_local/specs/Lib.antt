pub mod Announced
pub mod Stubs
pub mod Moves
pub mod Local
pub mod Ending
