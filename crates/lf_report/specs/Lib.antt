pub mod Counts
pub mod Json
pub mod Numbers
pub mod Places
pub mod Shown
pub mod Text
pub mod views
