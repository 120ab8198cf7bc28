pub mod Facts
pub mod Rounds
pub mod Sums
pub mod Tasks
pub mod views
pub mod Words
