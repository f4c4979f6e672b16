pub mod Refusals
pub mod Values
pub mod Table
pub mod RingParts
pub mod File
pub mod Line
