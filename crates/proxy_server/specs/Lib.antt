pub mod CountSums
pub mod LookSums
pub mod NameSums
pub mod Living
pub mod Words
pub mod Board
pub mod Stop
pub mod HostOuts
