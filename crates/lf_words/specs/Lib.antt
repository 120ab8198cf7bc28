pub mod Lint
pub mod Grammar
pub mod views
