pub mod Totals
pub mod RunningTotal
