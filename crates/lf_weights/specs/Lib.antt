pub mod Weights
pub mod views
