pub mod Components
pub mod Paths
pub mod views
