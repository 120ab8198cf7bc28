pub mod Accepted
pub mod Allowance
pub mod Patterns
pub mod Sizes
pub mod Taken
pub mod views
