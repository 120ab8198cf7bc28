pub mod Ascending
pub mod Booleans
pub mod Gaining
pub mod Members
pub mod Options
pub mod Slices
