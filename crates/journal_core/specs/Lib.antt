pub mod Blocks
pub mod Error
pub mod Journal
pub mod Kept
