pub mod Allowance
pub mod Founds
pub mod Judged
pub mod Limits
pub mod views
