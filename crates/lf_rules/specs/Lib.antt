pub mod Texts
pub mod Mappings
pub mod Sources
pub mod Rules
pub mod Breaches
pub mod reading
