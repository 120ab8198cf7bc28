-- How contracts see the walks. It defines nothing.
pub mod Needed
