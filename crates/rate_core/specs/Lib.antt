pub mod Rate
pub mod Outlier
pub mod Laws
