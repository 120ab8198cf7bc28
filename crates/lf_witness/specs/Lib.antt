pub mod Ascending
pub mod Strict
pub mod StrictRuns
pub mod views
