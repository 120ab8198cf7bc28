pub mod Ascending
pub mod Gaining
