pub mod Measure
pub mod Unresolved
pub mod views
