pub mod Refusal
pub mod Command
pub mod Parts
pub mod Places
pub mod Queue
pub mod Laws
