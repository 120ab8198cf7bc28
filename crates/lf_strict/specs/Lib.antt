pub mod Steps
pub mod views
