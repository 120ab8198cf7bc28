pub mod Raising
pub mod Reads
pub mod views
