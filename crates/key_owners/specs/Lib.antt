pub mod Owners
pub mod Lines
