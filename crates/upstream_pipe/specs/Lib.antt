pub mod Refusal
pub mod Pipe
