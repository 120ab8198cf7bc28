mod Blocks
mod Nodes
mod Passing
pub mod Sums
