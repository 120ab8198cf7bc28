pub mod Listing
pub mod Missing
pub mod Raising
pub mod Rounds
pub mod SameRows
pub mod Steps
