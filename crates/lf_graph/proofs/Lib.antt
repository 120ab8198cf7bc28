mod Closing
pub mod Held
pub mod Inserting
mod Joining
mod Leading
pub mod Listed
mod Lists
mod Marks
mod Meeting
mod Nodes
mod Numbered
pub mod Paths
pub mod Prefixes
mod Reaching
mod Taking
