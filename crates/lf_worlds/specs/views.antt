-- How contracts see the code's own data. It defines nothing.
pub mod AtMost
pub mod Readings
pub mod RuleGraph
pub mod Told
pub mod Tried
