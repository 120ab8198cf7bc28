pub mod Selectors
pub mod views
