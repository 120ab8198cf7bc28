-- How contracts see the code's own data. They define nothing.
pub mod Ascending
pub mod Built
