pub mod Holding
pub mod Constructs
pub mod OpenList
pub mod views
