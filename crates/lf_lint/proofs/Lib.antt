mod Accepted
pub mod Asking
pub mod Gathered
pub mod GeneratedSize
mod Leaves
pub mod OneReport
pub mod SameBytes
mod Shapes
pub mod Standing
mod Streams
mod ToldRules
pub mod Truths
pub mod Written
