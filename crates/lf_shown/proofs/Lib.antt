pub mod Rows
pub mod Texts
pub mod Choices
pub mod Worlds
pub mod Made
pub mod Reading
pub mod Effects
pub mod Operators
pub mod Constructs
pub mod Selectors
pub mod Recorded
pub mod Expressions
pub mod Reached
pub mod Induction
pub mod Marks
pub mod Least
pub mod LastBuckets
pub mod LastRows
pub mod Showing
pub mod Silent
pub mod Settled
pub mod Resolved
mod WorkedNoneOpen
mod WorkedShown
