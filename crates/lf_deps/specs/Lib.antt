pub mod Ordering
pub mod Reading
pub mod views
