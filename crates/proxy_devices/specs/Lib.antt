pub mod Device
pub mod Tallied
pub mod Faulty
