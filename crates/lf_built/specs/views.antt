-- How contracts see the code's own data. It defines nothing.
pub mod Begun
pub mod Built
pub mod Counts
pub mod Fitting
pub mod Indexed
pub mod Marked
pub mod Marking
pub mod PartRows
pub mod Places
pub mod RuleRows
pub mod Sides
pub mod Spots
pub mod Tasks
pub mod Unsaid
pub mod Works
