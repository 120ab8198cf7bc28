pub mod Checked
pub mod Limits
pub mod RowWords
pub mod reading
pub mod views
