pub mod BreachesInside
pub mod CallsJudged
pub mod Folding
pub mod Judged
pub mod LabelOrders
pub mod LabelSets
pub mod Listing
pub mod Sides
pub mod TreeOf
pub mod Turning
pub mod UpToSpans
pub mod Visiting
pub mod Walks
mod Worked
