pub mod Names
pub mod Table
pub mod Entry
pub mod Laws
