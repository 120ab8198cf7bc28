-- How contracts see the reading of sizes. It defines nothing of patterns.
pub mod Size
