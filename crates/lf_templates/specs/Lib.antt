pub mod Source
pub mod Bytes
pub mod Tokens
pub mod Actions
pub mod Templates
pub mod reading
pub mod views
