pub mod Sums
pub mod Steps
pub mod Sorted
pub mod Maps
