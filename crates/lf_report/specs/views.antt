-- How contracts see the code's own data: nobody has to believe it, and no definition uses it.
pub mod Lookups
pub mod Heads
pub mod Pieces
pub mod LineIndex
pub mod Totals
pub mod PlainNames
