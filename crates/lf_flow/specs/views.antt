-- How contracts see the code's own data. It defines nothing.
pub mod Budget
pub mod Absence
pub mod Chosen
pub mod ClassSets
pub mod Kept
pub mod Reading
