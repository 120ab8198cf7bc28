-- How contracts see the code's own data. It defines nothing.
pub mod Index
pub mod Links
pub mod Makers
pub mod Names
pub mod Queue
pub mod Search
pub mod Selecting
pub mod Sources
pub mod Visits
