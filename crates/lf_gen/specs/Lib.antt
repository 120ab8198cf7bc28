pub mod Lines
pub mod Generated
pub mod views
