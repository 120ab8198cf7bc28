pub mod Asked
pub mod Ends
pub mod Headline
pub mod Read
pub mod Statuses
pub mod views
