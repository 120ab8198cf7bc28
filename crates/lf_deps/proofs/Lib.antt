pub mod Ascending
mod Counting
pub mod Followed
pub mod Indexed
pub mod LookedUp
mod NamePaths
pub mod Numbered
pub mod OrderLaws
pub mod Ordered
pub mod Outcomes
pub mod Placed
mod Reached
pub mod RuleTrees
mod Settling
mod Taking
